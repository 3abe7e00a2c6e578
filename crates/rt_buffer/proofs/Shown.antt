-- What a tip has to write, and what it shows.
use Rattle.rt_buffer.proofs.Prelude.{◌≡◌, ℕ, List, [], ◌∷◌, Some, None, false, refl, sym, ap, ◌∙◌, arith, take, append-nil, take_all, Tip, bytes_to_write, laid_over, LiesOver, has_bytes, written}
use Rattle.rt_buffer.proofs.Laid.{laid_is}

-- a tip without bytes shows its blob
pub shows_none : (at capacity : ℕ) (bs content : List ℕ) → LiesOver (record { offset = at; bytes = bs; capacity = capacity }) content → bytes_to_write (record { offset = at; bytes = bs; capacity = capacity }) ≡ None → content ≡ laid_over (record { offset = at; bytes = bs; capacity = capacity }) content
shows_none at capacity [] content lies none =
    sym (laid_is (record { offset = at; bytes = []; capacity = capacity }) content lies ∙ (append-nil (take at content) ∙ take_all at content (omega (arith, lies.1))))
shows_none at capacity (x ∷ xs) content lies none = absurd (cc)

-- the tip's bytes are those that are written
shows_some : (offset capacity : ℕ) (own content bs : List ℕ) (at : ℕ) → bytes_to_write (record { offset = offset; bytes = own; capacity = capacity }) ≡ Some (bs, at) → written at bs content ≡ laid_over (record { offset = offset; bytes = own; capacity = capacity }) content
shows_some offset capacity [] content bs at some = absurd (cc)
shows_some offset capacity (x ∷ xs) content bs at some =
    let same : (bs, at) ≡ ((x ∷ xs), offset) = cc in
    ap (λ (p : List ℕ × ℕ). written p.1 p.0 content) same

pub shows_bytes : (t : Tip) (content bs : List ℕ) (at : ℕ) → bytes_to_write t ≡ Some (bs, at) → written at bs content ≡ laid_over t content
shows_bytes t content bs at some = shows_some t.offset t.capacity t.bytes content bs at some

pub shows_empty : (at capacity : ℕ) (bs content : List ℕ) → LiesOver (record { offset = at; bytes = bs; capacity = capacity }) content → has_bytes bs ≡ false → content ≡ laid_over (record { offset = at; bytes = bs; capacity = capacity }) content
shows_empty at capacity [] content lies none = shows_none at capacity [] content lies refl
shows_empty at capacity (x ∷ xs) content lies none = absurd (cc)
