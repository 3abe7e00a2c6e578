use Rattle.rt_net.proofs.Prelude.{◌≡◌, take, list_any, AllWithin}
use Rattle.rt_net.proofs.waited.anyone_waits_at.Given as goal

abbrev pub invariant-loop-index : goal.invariant-loop-index
invariant-loop-index g l = record {
  found : l.found ≡ list_any g.W.Waited.waited (take l.index l.places.items);
  quiet : AllWithin g.W.Waited.quiet l.places.items 0 l.index;
}
