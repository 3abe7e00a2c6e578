use Rattle.rt_scripts.proofs.Prelude.{◌≡◌, ◌∙◌, sym, ap, length, refl, arith, find, without, kept-kept}
use Rattle.rt_scripts.proofs.Scripts.{next_held, next_first, next_none, releases-more, releases-none}
use Rattle.rt_scripts.proofs.script.release_all.Goals as goal

pub unreachable-requires : goal.unreachable-requires
unreachable-requires g c =
    let hs = c.loop-at.held.items in
    let same : c.ends_next.new.self.items ≡ hs = rw c.ends_next.ensures.same refl in
    next_held hs c.in-Some.at (sym c.ends_next.ensures.next ∙ c.in-Some.is) (ap (find c.in-Some.at) (sym same) ∙ sym c.take.ensures.state ∙ c.in_default-take.is)

pub loop-at-smaller : goal.loop-at-smaller
loop-at-smaller g c =
    let hs = c.loop-at.held.items in
    let at = c.in-Some.at in
    let same : c.ends_next.new.self.items ≡ hs = rw c.ends_next.ensures.same refl in
    let whole = next_first hs at c.in-Some-take.one (sym c.ends_next.ensures.next ∙ c.in-Some.is) (ap (find at) (sym same) ∙ sym c.take.ensures.state ∙ c.in-Some-take.is) in
    let rest : c.take.new.self.items ≡ without at hs = c.take.ensures.items ∙ ap (without at) same in
    omega (arith, ap length whole, ap length rest)

pub loop-at-preserved : goal.loop-at-preserved
loop-at-preserved g c =
    let i = c.loop-at.invariant in
    let hs = c.loop-at.held.items in
    let at = c.in-Some.at in
    let same : c.ends_next.new.self.items ≡ hs = rw c.ends_next.ensures.same refl in
    let whole = next_first hs at c.in-Some-take.one (sym c.ends_next.ensures.next ∙ c.in-Some.is) (ap (find at) (sym same) ∙ sym c.take.ensures.state ∙ c.in-Some-take.is) in
    let rest : c.take.new.self.items ≡ without at hs = c.take.ensures.items ∙ ap (without at) same in
    record {
      kept = kept-kept _ _ _ i.kept c.give_up.ensures.kept;
      lacked = c.give_up.ensures.lacked ∙ i.lacked;
      releases = rw rest (releases-more c.args.held.items hs at c.in-Some-take.one c.args.world.now c.loop-at.world c.give_up.new.world whole i.releases c.give_up.ensures.steps);
    }

pub destroy_empty-requires : goal.destroy_empty-requires
destroy_empty-requires g c =
    let same : c.ends_next.new.self.items ≡ c.loop-at.held.items = rw c.ends_next.ensures.same refl in
    same ∙ next_none c.loop-at.held.items (sym c.ends_next.ensures.next ∙ c.in_default.is)

pub returns-clause-steps : goal.returns-clause-steps
returns-clause-steps g c =
    releases-none c.args.held.items c.loop-at.held.items c.args.world.now c.loop-at.world (next_none c.loop-at.held.items (sym c.ends_next.ensures.next ∙ c.in_default.is)) c.loop-at.invariant.releases
