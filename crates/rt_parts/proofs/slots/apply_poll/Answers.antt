use Rattle.std.proofs.Common.{◌≡◌, sym}
use Rattle.rt_audit.specs.declared.reply.CallReply.TheVariants.{Pending}
use Rattle.rt_model.specs.declared.result.Outcome.TheVariants.{Open}
use Rattle.rt_model.specs.Lists.{find}
use Rattle.rt_model.specs.Slots.{ReceiveAnswers}
use Rattle.rt_parts.proofs.SlotLaws.{pending-open}
use Rattle.rt_parts.proofs.Totals.{join-places}
use Rattle.rt_parts.proofs.slots.apply_poll.Goals as goal

pub returns-in-Pending-clause-places : goal.returns-in-Pending-clause-places
returns-in-Pending-clause-places c =
    let slots = c.args.slots.now.items in
    let answers : ReceiveAnswers (find c.args.slot slots) Pending = rw c.in-Pending.is at c.requires in
    let there = pending-open (find c.args.slot slots) answers in
    rw c.settle-before.ensures.items (join-places c.args.slot slots (Open c.args.by) there.0 there.1 (sym there.2))
