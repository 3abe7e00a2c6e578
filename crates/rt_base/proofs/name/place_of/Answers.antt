use Rattle.std.proofs.Common.{◌≡◌, ◌<◌, ◌∙◌, sym, arith, length, get_or}
use Rattle.std.proofs.Common.{Less, Equal}
use Rattle.rt_base.specs.Attributes.{text_cmp}
use Rattle.std.proofs.lemmas.List.{get_or_default}
use Rattle.rt_base.proofs.Places.{put_before, put_at}
use Rattle.rt_base.proofs.name.place_of.Goals as goal

pub returns-in-Less : goal.returns-in-Less
returns-in-Less c =
    let inside : c.loop-at.at < length c.args.attributes.now = omega arith in
    let here : text_cmp c.args.key.now (get_or c.args.attributes.now c.loop-at.at c.index-attributes-at.result).0 ≡ Less = cc in
    (omega arith, λ value. sym (c.loop-at.invariant value) ∙ put_before _ _ _ value _ inside here)

pub returns-in-Equal : goal.returns-in-Equal
returns-in-Equal c =
    let inside : c.loop-at.at < length c.args.attributes.now = omega arith in
    let here : text_cmp c.args.key.now (get_or c.args.attributes.now c.loop-at.at c.index-attributes-at.result).0 ≡ Equal = cc in (
      inside,
      λ value any.
          sym (c.loop-at.invariant value)
          ∙ put_at _ _ _ value any inside (rw (get_or_default c.args.attributes.now c.loop-at.at any c.index-attributes-at.result inside) here),
    )
