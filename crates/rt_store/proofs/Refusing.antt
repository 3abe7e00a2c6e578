-- A refusal that was found without a draw is the answer of a call that may draw.
use Rattle.rt_store.proofs.Prelude.{◌≡◌, ℕ, List, [], sym, ap, ◌∙◌, rules, Option, Notes, Error, Io, NoMemory, Noted, Adds, Refused}
use Rattle.std.proofs.lemmas.List.{append-nil}
use Rattle.std.specs.Prelude.{None, Some}

adds_none : (old new : Option (List Noted)) → new ≡ old → Adds old [] new
adds_none None new h = tt
adds_none (Some xs) new h = h ∙ ap (λ (ys : List Noted). let o : Option (List Noted) = Some ys in o) (sym (append-nil xs))

refused_on : (refusal : Option Error) (rate : ℕ) (e : Error) → Refused refusal 0 e [] → Refused refusal rate e []
refused_on refusal rate NoMemory h = h
refused_on refusal rate (Io kind) h = search rules
refused_on refusal rate e h = h

pub noted_refusal : (refusal : Option Error) (rate : ℕ) (e : Error) (old new : Option (List Noted)) → new ≡ old → Refused refusal 0 e [] → Notes old (Refused refusal rate e) new
noted_refusal refusal rate e old new same h = ([], adds_none old new same, refused_on refusal rate e h)
