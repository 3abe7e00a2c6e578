-- Texts that are written through a buffer.
use Rattle.rt_scripts.proofs.Prelude.{◌≡◌, ℕ, List, [], ◌∷◌, ◌++◌, Option, Some, None, Result, Ok, Err, OnErr, refl, sym, ap, subst, ◌∙◌, append_assoc, codes, take, drop, append-nil, take-append-drop, Appends, appends_more, Entry, line_of, IsWritten, IsPart, entries_text, result_text, numbers_text, report_text, RunReport}

pub appends_nothing : (held : Option (List ℕ)) → Appends held [] held
appends_nothing None = tt
appends_nothing (Some all) = (all, refl, sym (append-nil all))

-- all of it is still in the buffer
pub written_later : (held : Option (List ℕ)) (text : List ℕ) → IsWritten held text held text
written_later held text = ([], appends_nothing held, refl)

-- a buffer was written out whole
pub written_out : (before after : Option (List ℕ)) (text : List ℕ) → Appends before text after → IsWritten before text after []
written_out before after text h = (text, h, append-nil text)

-- a text, and more behind it
pub written_more : (before mid after : Option (List ℕ)) (text buffer more rest : List ℕ) → IsWritten before text mid buffer → IsWritten mid (buffer ++ more) after rest → IsWritten before (text ++ more) after rest
written_more before mid after text buffer more rest one two =
    (one.0 ++ two.0, appends_more before mid after one.0 two.0 one.1 two.1, append_assoc one.0 two.0 rest ∙ ap (λ l. one.0 ++ l) two.2 ∙ sym (append_assoc one.0 buffer more) ∙ ap (λ l. l ++ more) one.2)

-- and the rest was written out from the buffer
pub written_whole : (before mid after : Option (List ℕ)) (text buffer more piece whole : List ℕ) → IsWritten before text mid buffer → Appends mid piece after → piece ≡ buffer ++ more → text ++ more ≡ whole → Appends before whole after
written_whole before mid after text buffer more piece whole one two is gives =
    let all : one.0 ++ (buffer ++ more) ≡ whole = sym (append_assoc one.0 buffer more) ∙ ap (λ l. l ++ more) one.2 ∙ gives in
    subst (λ l. Appends before l after) all (appends_more before mid after one.0 (buffer ++ more) one.1 (subst (λ l. Appends mid l after) is two))

-- what stands whatever the answer is stands after an error
pub on_err : {V E : Type 0} (A : Type 0) (answer : Result V E) → A → OnErr answer A
on_err A (Ok v) a = tt
on_err A (Err e) a = a

-- nothing was written
pub unwritten : (held : Option (List ℕ)) (text : List ℕ) → IsPart held text held
unwritten held text = (text, written_later held text)

-- the first bytes of the text were written in one piece
pub part_of : (before after : Option (List ℕ)) (piece text : List ℕ) → piece ≡ text → (n : ℕ) × Appends before (take n piece) after → IsPart before text after
part_of before after piece text is cut =
    subst (λ l. IsPart before l after) is (drop cut.0 piece, (take cut.0 piece, cut.1, take-append-drop cut.0 piece))

-- a first part of a text is one of a longer text
pub part_longer : (before after : Option (List ℕ)) (text more whole : List ℕ) → text ++ more ≡ whole → IsPart before text after → IsPart before whole after
part_longer before after text more whole is part =
    subst (λ l. IsPart before l after) is (part.0 ++ more, (part.1.0, part.1.1, sym (append_assoc part.1.0 part.0 more) ∙ ap (λ l. l ++ more) part.1.2))

-- a text was written up to its buffer, and then a part of what was to follow
pub part_behind : (before mid after : Option (List ℕ)) (text buffer more whole : List ℕ) → text ++ more ≡ whole → IsWritten before text mid buffer → IsPart mid (buffer ++ more) after → IsPart before whole after
part_behind before mid after text buffer more whole is one two =
    subst (λ l. IsPart before l after) is (two.0, written_more before mid after text buffer more two.0 one two.1)

-- a report is its first line, the lines of its entries, and the rest
pub report_parts : (run : RunReport) (entries : List Entry) (first : List ℕ) → first ≡ codes "run " ++ (run.root ++ codes "\n") → (first ++ entries_text entries) ++ (result_text run.result ++ numbers_text run) ≡ report_text run entries
report_parts run entries first is =
    let rest = result_text run.result ++ numbers_text run in
    append_assoc first (entries_text entries) rest ∙ ap (λ l. l ++ (entries_text entries ++ rest)) is

-- the line of the next entry
pub next_line : (entries rest : List Entry) (entry : Entry) (text whole : List ℕ) → entries ≡ entry ∷ rest → text ++ entries_text entries ≡ whole → (text ++ (line_of entry ++ codes "\n")) ++ entries_text rest ≡ whole
next_line entries rest entry text whole is h = append_assoc text (line_of entry ++ codes "\n") (entries_text rest) ∙ ap (λ es. text ++ entries_text es) (sym is) ∙ h
