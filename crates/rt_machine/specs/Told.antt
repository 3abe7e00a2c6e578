-- What the journal of a run says.
use Rattle.std.specs.Prelude.{◌≡◌, ◌≤◌, ℕ, List, [], ◌∷◌, ◌++◌, take, drop, length, Bool, true, false, Option, Some, None, option_map}
use Rattle.rt_audit.specs.declared.entry.Entry.{Entry}
use Rattle.rt_audit.specs.declared.entry.Entry.TheVariants.{Call, Event, Wake, Draw, Root, Answer, Cleanup, Crash}
use Rattle.rt_model.specs.declared.begin.Begin.{Begin}
use Rattle.rt_model.specs.State.{State, Turn, begun}
use Rattle.rt_model.specs.Effects.{after, after_all}
use Rattle.rt_model.specs.Rules.{IsLawful, AreDrawn}
use Rattle.rt_model.specs.Digests.{AreDigested}
use Rattle.rt_audit.specs.Journal.{digest_of}

-- how the run began, the entries that it was given, its own up to the calls under way, the calls under way, and the state
pub record Told : Type 0 where
  pub begin : Begin
  pub given : List Entry
  pub past : List Entry
  pub calls : List Entry
  pub state : State

-- what is told, how many more entries have room, and the turns that were made before a call of the part under way ran out of
-- memory, if one did
pub record Journaled : Type 0 where
  pub told : Told
  pub spare : ℕ
  pub lacked : Option (List Turn)

-- before the first entry of a run
abbrev pub fresh : Begin → List Entry → Told
fresh begin given = record { begin = begin; given = given; past = []; calls = []; state = begun begin }

-- with a further entry, which ends the calls under way
abbrev pub pushed : Told → Entry → Told
pushed t e = record { begin = t.begin; given = t.given; past = (t.past ++ t.calls) ++ e ∷ []; calls = []; state = after t.state e }

abbrev pub pushed_all : Told → List Entry → Told
pushed_all t [] = t
pushed_all t (e ∷ es) = pushed_all (pushed t e) es

-- with a further call or wake
abbrev pub noted : Told → Entry → Told
noted t e = record { begin = t.begin; given = t.given; past = t.past; calls = t.calls ++ e ∷ []; state = after t.state e }

abbrev pub is_call : Entry → Bool
is_call (Call by call reply) = true
is_call (Event label fields) = true
is_call (Wake task) = true
is_call _ = false

-- these are calls, their events and wakes alone
abbrev pub AreCalls : List Entry → Type 0
AreCalls [] = Unit {0}
AreCalls (e ∷ es) = (is_call e ≡ true) × AreCalls es

-- the steps of no task decide the entry, and nothing is drawn by it
abbrev pub is_quiet : Entry → Bool
is_quiet (Call by call reply) = false
is_quiet (Draw value) = false
is_quiet (Root task) = false
is_quiet (Answer task kind) = false
is_quiet Cleanup = false
is_quiet (Crash choices) = false
is_quiet _ = true

abbrev pub AreQuiet : List Entry → Type 0
AreQuiet [] = Unit {0}
AreQuiet (e ∷ es) = (is_quiet e ≡ true) × AreQuiet es

-- entries were added that the steps of no task decide, and nothing was drawn
pub record Quietly (old new : Told) : Type 0 where
  pub entries : List Entry
  pub quiet : AreQuiet entries
  pub is : new ≡ pushed_all old entries

-- all entries of the run
abbrev pub own : Told → List Entry
own t = t.past ++ t.calls

-- what is told by the entries of a journal, whose run starts at one place and whose calls under way start at another
abbrev pub told_from : Begin → List Entry → ℕ → ℕ → Told
told_from begin entries start mark = record {
  begin = begin;
  given = take start entries;
  past = drop start (take mark entries);
  calls = drop mark entries;
  state = after_all (begun begin) (drop start entries);
}

-- the turns of the part under way when there were so many entries
abbrev pub turns_at : Begin → List Entry → ℕ → ℕ → List Turn
turns_at begin entries start len = (after_all (begun begin) (drop start (take len entries))).turns

abbrev pub lacked_at : Begin → List Entry → ℕ → Option ℕ → Option (List Turn)
lacked_at begin entries start len = option_map (turns_at begin entries start) len

-- no place, or one within these
abbrev pub IsWithin : Option ℕ → ℕ → Type 0
IsWithin None len = Unit {0}
IsWithin (Some at) len = at ≤ len

pub record IsKept (begin : Begin) (entries : List Entry) (start mark : ℕ) (lacked : Option ℕ) : Type 0 where
  pub start_first : start ≤ mark
  pub mark_within : mark ≤ length entries
  pub lawful : IsLawful (begun begin) (drop start entries)
  pub drawn : AreDrawn (begun begin) (drop start entries)
  pub digested : AreDigested (digest_of (take start entries)) (drop start entries)
  pub calls : AreCalls (drop mark entries)
  pub lacked_within : IsWithin lacked (length entries)
