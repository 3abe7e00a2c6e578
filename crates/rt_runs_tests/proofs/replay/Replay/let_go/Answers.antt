use Rattle.std.proofs.Common.{◌≡◌, ◌∙◌, refl, ap, ℕ, Option, Bool, true, false}
use Rattle.rt_audit.specs.declared.call.Call.TheVariants.{SignalerClose}
use Rattle.rt_model.specs.Turns.{has_place}
use Rattle.rt_machine.specs.Calls.{Spent}
use Rattle.rt_machine.specs.Places.{Seen}
use Rattle.rt_machine.proofs.Replays.{calls-same}
use Rattle.rt_runs_tests.proofs.replay.Replay.let_go.Goals as goal

-- where a run stands, a signaler that is given up leaves as it is
stays : (by : Option ℕ) (old new : Seen) (signaler : ℕ) → Spent by old new (SignalerClose signaler) → (new.told.state.phase ≡ old.told.state.phase) × (new.told.state.root ≡ old.told.state.root) × (new.told.state.running ≡ old.told.state.running)
stays by old new signaler spent = at (has_place old.told.state.stood (SignalerClose signaler)) refl
  where
    at : (b : Bool) → has_place old.told.state.stood (SignalerClose signaler) ≡ b → (new.told.state.phase ≡ old.told.state.phase) × (new.told.state.root ≡ old.told.state.root) × (new.told.state.running ≡ old.told.state.running)
    at true e = let n = spent.there e in (n.phase, n.root, n.running)
    at false e = rw (spent.gone e) (refl, refl, refl)

pub returns-clause-phase : goal.returns-clause-phase
returns-clause-phase c =
    (stays _ _ _ _ c.close_signaler.ensures).0 ∙ ap (λ (s : Seen). s.told.state.phase) c.self.view_is

pub returns-clause-calling : goal.returns-clause-calling
returns-clause-calling c =
    let s = stays _ _ _ _ c.close_signaler.ensures in
    calls-same c.self.inside.machine.told.state c.close_signaler.new.self.told.state c.args.by s.0 s.1 s.2 (rw (← c.self.view_is) at c.requires.calling)
