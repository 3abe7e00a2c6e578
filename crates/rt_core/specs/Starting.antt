-- How a run begins, and the settings for which it may.
use Rattle.std.specs.Prelude.{◌≡◌, ◌≤◌, ◌+◌, ℕ, List, Option, Some, None, Bool, ltb, eqb, if◌then◌else◌, Result, Ok, Err}
use Rattle.rand_core.specs.Pcg32Seed.{pcg32_seed}
use Rattle.rand_core.specs.Steps.{steps_u32, stream_of}
use Rattle.rand_core.specs.Stream.{Stream}
use Rattle.rand_chacha.specs.ChaCha.{ChaCha, of_seed, next_word}
use Rattle.rt_base.specs.declared.time.TheConstants.{MAX_TIME}
use Rattle.rt_audit.specs.declared.entry.Entry.{Entry}
use Rattle.rt_model.specs.declared.begin.Begin.{Begin}
use Rattle.rt_core.specs.declared.config.ConfigError.{ConfigError}
use Rattle.rt_core.specs.declared.config.ConfigError.TheVariants.{ZeroCycle, StartTooLate, DeadlineTooLate}

-- the moment that lies so far after the start, where there is one
abbrev pub deadline_of : ℕ → Option ℕ → Option ℕ
deadline_of start None = None
deadline_of start (Some timeout) = Some (start + timeout)

abbrev pub is_too_late : Option ℕ → Bool
is_too_late None = Rattle.std.specs.Prelude.false
is_too_late (Some moment) = ltb MAX_TIME moment

-- the first setting that is refused
abbrev pub assert_of : ℕ → ℕ → Option ℕ → Result (Unit {0}) ConfigError
assert_of cycle start timeout =
    if eqb cycle 0 then Err ZeroCycle
    else if ltb MAX_TIME start then Err StartTooLate
    else if is_too_late (deadline_of start timeout) then Err DeadlineTooLate
    else Ok tt

-- the generator of this seed
abbrev pub seeded : ℕ → ChaCha
seeded seed = of_seed (pcg32_seed 32 seed)

-- what a generator of ChaCha with 12 rounds gives
abbrev pub chacha_stream : ChaCha → Stream
chacha_stream = stream_of (steps_u32 (next_word 6))

-- the seed of a generator that nobody chose
abbrev pub default_seed : ℕ
default_seed = 42

-- how a run begins, the entries of the runs before it, and its generator
pub record Starting (G : Type 0) : Type 0 where
  pub begin : Begin
  pub given : List Entry
  pub rng : G

-- no moment, or one that a run can reach
abbrev pub IsWithin : Option ℕ → Type 0
IsWithin None = Unit {0}
IsWithin (Some moment) = moment ≤ MAX_TIME

-- what every runner holds
pub record MayStart (begin : Begin) : Type 0 where
  pub cycle_is : 1 ≤ begin.cycle
  pub start_within : begin.start ≤ MAX_TIME
  pub deadline_within : IsWithin begin.deadline

-- a checkpoint is of a moment and of settings with which a run may begin
abbrev pub MayResume : ℕ → Option ℕ → ℕ → Type 0
MayResume time deadline cycle = (1 ≤ cycle) × (time ≤ MAX_TIME) × IsWithin deadline

-- what a completed run leaves: its last moment, what its start fixed but the first task number, all entries, and its generator
pub record Kept (G : Type 0) : Type 0 where
  pub time : ℕ
  pub deadline : Option ℕ
  pub cycle : ℕ
  pub catch : Bool
  pub journal : List Entry
  pub rng : G

-- the beginning of a first run, whose task numbers begin with this one
abbrev pub first_begin : ℕ → ℕ → Option ℕ → Bool → ℕ → Begin
first_begin cycle start timeout catch next = record { start = start; cycle = cycle; deadline = deadline_of start timeout; first = next; catch = catch }

-- the beginning of a run that goes on after another: at its last moment, with the same deadline, and with task numbers from 0 on
abbrev pub resumed : {G : Type 0} → Kept G → Starting G
resumed kept = record {
  begin = record { start = kept.time; cycle = kept.cycle; deadline = kept.deadline; first = 0; catch = kept.catch };
  given = kept.journal;
  rng = kept.rng;
}
