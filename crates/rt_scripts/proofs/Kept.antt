-- The journal of a run decides what is kept of it.
use Rattle.rt_scripts.proofs.Prelude.{◌≡◌, ◌∙◌, ◌++◌, refl, sym, ap, subst, append_cancel_left, Stream, State, after_all, Steps, Completes, Starting, Kept, one_left}
use Rattle.rt_model.specs.State.{begun}
use Rattle.rt_machine.specs.Draws.{Gave}

module _ {A O G : Type 0} (stream : G → Stream) (p : Steps A O) (s : Starting G) where
  -- runs from one beginning that leave the same entries end in one state
  same-end : (one two : O) (kept other : Kept G) (c : Completes stream p s one kept) (d : Completes stream p s two other) → kept.journal ≡ other.journal → c.end ≡ d.end
  same-end one two kept other c d is =
      let entries =
      append_cancel_left s.given c.entries d.entries (sym (ap (λ (k : Kept G). k.journal) c.keeps) ∙ is ∙ ap (λ (k : Kept G). k.journal) d.keeps) in
      sym c.run.reaches ∙ ap (after_all (begun s.begin)) entries ∙ d.run.reaches

  -- so what is kept of them is the same, and their generators give the same from there on
  pub one_checkpoint : (one two : O) (kept other : Kept G) → Completes stream p s one kept → Completes stream p s two other → kept.journal ≡ other.journal → (other ≡ record kept { rng = other.rng }) × (stream other.rng ≡ stream kept.rng)
  one_checkpoint one two kept other c d is =
      let end = same-end one two kept other c d is in
      let journal : s.given ++ c.entries ≡ s.given ++ d.entries = sym (ap (λ (k : Kept G). k.journal) c.keeps) ∙ is ∙ ap (λ (k : Kept G). k.journal) d.keeps in
      let entries = append_cancel_left s.given c.entries d.entries journal in
      let gave : Gave (stream s.rng) (after_all (begun s.begin) c.entries).drawn (stream other.rng) = rw entries d.facts.draws in
      (d.keeps ∙ rw (← end, ← journal) refl ∙ sym (ap (λ (k : Kept G). record k { rng = other.rng }) c.keeps), one_left (stream s.rng) (stream other.rng) (stream kept.rng) (after_all (begun s.begin) c.entries).drawn gave c.facts.draws)
