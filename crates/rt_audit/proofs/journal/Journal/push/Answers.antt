use Rattle.std.proofs.Common.{arith, ◌∙◌, ◌+◌, ◌∷◌, [], ap, ℕ, List}
use Rattle.rt_hasher.specs.Digest.{first_digest}
use Rattle.rt_audit.specs.Journal.{time_after, rounds_in, digest_after}
use Rattle.rt_audit.proofs.Times.{last_time-more, rounds-append, rounds-most, digest_from-more}
use Rattle.rt_audit.proofs.journal.Journal.push.Goals as goal

pub invariant_of-self : goal.invariant_of-self
invariant_of-self c = (
  rw (c.push_reserved.ensures.items, last_time-more 0 c.self.inside.entries.items c.args.entry)
      (c.time_after-self-inside.ensures ∙ ap (λ (t : ℕ). time_after t c.args.entry) c.self.invariant.0),
  rw (c.push_reserved.ensures.items, rounds-append c.self.inside.entries.items (c.args.entry ∷ []))
      (c.rounds_after-self-inside.ensures ∙ ap (λ (n : ℕ). n + rounds_in (c.args.entry ∷ [])) c.self.invariant.1),
  rw (c.push_reserved.ensures.items, digest_from-more first_digest c.self.inside.entries.items c.args.entry)
      (c.digest_after.ensures ∙ ap (λ (d : List ℕ). digest_after d c.args.entry) c.self.invariant.2),
)

pub rounds_after-self-inside-requires : goal.rounds_after-self-inside-requires
rounds_after-self-inside-requires c =
    let most = rounds-most c.self.inside.entries.items in
    let room = c.requires in
    rw (c.self.invariant.1, c.capacity.ensures) (grind arith)
