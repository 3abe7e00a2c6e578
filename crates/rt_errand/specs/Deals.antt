-- What a dealer does: it draws in each of the three ways, and then asks for the digest.
use Rattle.std.specs.Prelude.{ℕ, List, Result, Ok, Err}
use Rattle.rt_core.specs.Tasks.{Error, Answer, Ready, NoMemory, Step, Gives, then, asks_auditor, asks_bytes, asks_u32, asks_u64}
use Rattle.rt_errand.specs.declared.dealer.Dealer.{Dealer}

abbrev pub Dealing : Type 0
Dealing = Step Dealer Dealer ℕ (Answer ℕ)

abbrev pub sealed : Dealer → ℕ → Result (List ℕ) Error → Dealing
sealed d card (Ok seal) = Gives (Ready card) d
sealed d card (Err error) = Gives NoMemory d

abbrev pub salted : Dealer → ℕ → Result (List ℕ) Error → Dealing
salted d card (Ok salt) = then asks_auditor (λ seal u. sealed d card seal)
salted d card (Err error) = Gives NoMemory d

abbrev pub handed : Dealer → ℕ → Result ℕ Error → Dealing
handed d card (Ok hand) = then (asks_bytes 4) (λ salt u. salted d card salt)
handed d card (Err error) = Gives NoMemory d

abbrev pub carded : Dealer → Result ℕ Error → Dealing
carded d (Ok card) = then asks_u64 (λ hand u. handed d card hand)
carded d (Err error) = Gives NoMemory d

unfoldable pub deals : Dealer → Dealing
deals d = then asks_u32 (λ card u. carded d card)
