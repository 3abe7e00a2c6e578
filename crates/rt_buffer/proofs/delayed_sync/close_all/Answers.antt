use Rattle.rt_buffer.proofs.Prelude.{List, Option, refl, sym, subst, SharedBlob, ClosesAll, ClosesLast}
use Rattle.rt_buffer.proofs.Holding.{closes_snoc}
use Rattle.rt_buffer.proofs.delayed_sync.close_all.Goals as goal

pub loop-place-preserved-in-Some-place : goal.loop-place-preserved-in-Some-place
loop-place-preserved-in-Some-place g c =
    let k = g.S.Storage in
    let Blob : Type 0 = Option (SharedBlob g.row.S-Blob.Denot) in
    let here : ClosesLast k c.in-Some.place c.loop-place.inner c.close.new.self =
    subst (λ (b : Blob). ClosesLast k b c.loop-place.inner c.close.new.self) (sym c.in-Some-place.is) (c.close.ensures.gives, c.close.ensures.others) in (
      c.close.ensures.callable,
      λ new behind. c.loop-place.invariant.1 new
          (subst (λ (bs : List Blob). ClosesAll k bs c.loop-place.inner new) (sym c.in-Some.ensures.items)
          (closes_snoc k c.pop.new.self.items c.in-Some.place c.loop-place.inner c.close.new.self new here behind)),
    )

pub loop-place-preserved : goal.loop-place-preserved
loop-place-preserved g c =
    let k = g.S.Storage in
    let Blob : Type 0 = Option (SharedBlob g.row.S-Blob.Denot) in
    let here : ClosesLast k c.in-Some.place c.loop-place.inner c.loop-place.inner =
    subst (λ (b : Blob). ClosesLast k b c.loop-place.inner c.loop-place.inner) (sym c.in_default-place.is) refl in (
      c.loop-place.invariant.0,
      λ new behind. c.loop-place.invariant.1 new
          (subst (λ (bs : List Blob). ClosesAll k bs c.loop-place.inner new) (sym c.in-Some.ensures.items)
          (closes_snoc k c.pop.new.self.items c.in-Some.place c.loop-place.inner c.loop-place.inner new here behind)),
    )
