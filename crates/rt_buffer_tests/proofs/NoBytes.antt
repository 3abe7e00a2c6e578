-- What a store without bytes keeps of its blobs, of which no two are apart.
use Rattle.std.proofs.Common.{◌≡◌, ℕ, List, [], true, false, Result, Some, Ok, Err, refl}
use Rattle.rt_base.specs.declared.error.Error.{Error}
use Rattle.rt_base.specs.declared.options.WriteOptions.{WriteOptions}
use Rattle.rt_buffer_tests.specs.declared.counting.Counting.{Counting}
use Rattle.rt_store.specs.declared.ticket.Ticket.{Ticket}
use Rattle.rt_store.specs.declared.ticket.Ticket.TheVariants.{Ready, Numbered}
use Rattle.rt_store.specs.Durable.{KeepsPoll, Leaves, LeavesAll, LeavesWhenGivenUp, OfOne, OpensApart, Promises}

pub leaves : (a : ℕ) (s new : Counting) → new.is_out ≡ s.is_out → Leaves (λ (v : Counting) (b : ℕ). let none : List ℕ = [] in none) (λ v b. Some []) (λ v t b. Some []) (λ v e f. ⊥) (λ v b. v.is_out ≡ true) a s new
leaves a s new same = ((λ b away. absurd away), ((λ e f away. away), (λ b out. rw same out)))

pub leaves_all : (s new : Counting) → new.is_out ≡ s.is_out → LeavesAll (λ (v : Counting) (b : ℕ). let none : List ℕ = [] in none) (λ v b. Some []) (λ v t b. Some []) (λ v e f. ⊥) (λ v b. v.is_out ≡ true) s new
leaves_all s new same = ((λ b. (refl, refl, λ n l is. is)), ((λ e f away. away), (λ b out. rw same out)))

-- the blob is given out once
pub gives_out : {A : Type 0} (token : A → ℕ) (s new : Counting) (a : A) → s.is_out ≡ false → new.is_out ≡ true
    → OpensApart (λ (v : Counting) (b : ℕ). let none : List ℕ = [] in none) (λ v b. Some []) (λ v t b. Some []) (λ v e f. ⊥) (λ v b. v.is_out ≡ true) token s (let r : Result A Error = Ok a in r) new
gives_out token s new a before after =
    ((λ b out. ((refl, refl, λ n l is. is), after)), (λ e f one two away. away), (after, (λ b out. absurd (let is : false ≡ true = rw before at out in cc))))

pub gives_none : {A : Type 0} (token : A → ℕ) (s new : Counting) (e : Error) → new.is_out ≡ s.is_out
    → OpensApart (λ (v : Counting) (b : ℕ). let none : List ℕ = [] in none) (λ v b. Some []) (λ v t b. Some []) (λ v e f. ⊥) (λ v b. v.is_out ≡ true) token s (let r : Result A Error = Err e in r) new
gives_none token s new e same = ((λ b out. ((refl, refl, λ n l is. is), rw same out)), (λ e f one two away. away), tt)

pub lets_go : (gives : Counting → Ticket → Counting → Type 0) (s : Counting) (b : ℕ) (options : WriteOptions) (e : Error) (new : Counting)
    → LeavesWhenGivenUp (λ (v : Counting) (k : ℕ). let none : List ℕ = [] in none) (λ v k. Some []) (λ v t k. Some []) (λ v i j. ⊥) (λ v k. v.is_out ≡ true) gives s b options (Err e) new
lets_go gives s b options e new t after plainly is given = absurd (cc)

hopes : (s : Counting) (t : Ticket) (b : ℕ) → Promises (λ (v : Counting) (k : ℕ). let none : List ℕ = [] in none) (λ v k. Some []) (λ v u k. Some []) s t b
hopes s (Ready (Ok u)) b = refl
hopes s (Ready (Err e)) b = tt
hopes s (Numbered n) b = refl

pub polls : (s : Counting) (t : Ticket) (new : Counting) (held : Ticket) → KeepsPoll (λ (v : Counting) (k : ℕ). let none : List ℕ = [] in none) (λ v k. Some []) (λ v u k. Some []) s t new held
polls s t new held b promise = (refl, hopes new held b)

pub of_one : (s : Counting) (t : Ticket) → OfOne (λ (v : Counting) (u : Ticket) (k : ℕ). let none : List ℕ = [] in Some none) (λ v e f. ⊥) s t
of_one s (Ready r) = tt
of_one s (Numbered n) = λ a b l k away one two. away
