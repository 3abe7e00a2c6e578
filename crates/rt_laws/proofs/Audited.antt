-- What an auditor's answer tells.
use Rattle.rt_laws.proofs.Prelude.{◌≡◌, ◌≢◌, ℕ, List, [], ◌∷◌, ◌++◌, Option, Some, length, refl, Error, bit_step, bit_steps, first_digest, fields_digest, framed_field, digest_from, digest_after, Auditor, CallReply, Bytes, Refused, Entry, AreDigested, State, Answers, AreDigested-append, opening, visiting_root}
use Rattle.rt_audit.specs.declared.entry.Entry.TheVariants.{Call}

pub only_digest : (digest bytes : List ℕ) (x y : List Entry) (by : Option ℕ) → AreDigested digest (x ++ Call by Auditor (Bytes bytes) ∷ y) → bytes ≡ digest_from digest x
only_digest digest bytes [] y by d = d.0
only_digest digest bytes (e ∷ x) y by d = only_digest (digest_after digest e) bytes x y by d.1

pub that_digest : (digest : List ℕ) (x : List Entry) (by : Option ℕ) → AreDigested digest x → AreDigested digest (x ++ Call by Auditor (Bytes (digest_from digest x)) ∷ [])
that_digest digest x by d = AreDigested-append digest x (Call by Auditor (Bytes (digest_from digest x)) ∷ []) d (refl, tt)

pub visit_told : AreDigested first_digest (opening ++ visiting_root ++ (Call (Some 0) Auditor (Bytes (50 ∷ 255 ∷ 208 ∷ 192 ∷ [])) ∷ []))
unfolding fields_digest bit_step bit_steps framed_field
visit_told = (tt, (tt, (tt, (tt, (tt, (refl, tt))))))

-- what answers an auditor's call, in every state

pub digest_answers : (s : State) (reply : CallReply) → Answers s Auditor reply → (bytes : List ℕ) × (reply ≡ Bytes bytes) × (length bytes ≡ 4)
digest_answers s (Bytes bytes) a = (bytes, refl, a)
digest_answers s _ a = absurd a

pub no_refused_digest : (s : State) (error : Error) → Answers s Auditor (Refused error) → ⊥
no_refused_digest s error a = a

pub no_other_digest : (s : State) (bytes : List ℕ) → length bytes ≢ 4 → Answers s Auditor (Bytes bytes) → ⊥
no_other_digest s bytes other a = other a
