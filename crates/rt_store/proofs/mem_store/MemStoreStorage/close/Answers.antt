use Rattle.rt_store.proofs.Prelude.{rules, Kept}
use Rattle.rt_store.proofs.Kept.{closed_leaves}
use Rattle.rt_store.proofs.mem_store.MemStoreStorage.close.Goals as goal

pub returns-clause-others : goal.returns-clause-others
returns-clause-others c =
    let new : Kept = record {
      state = record { directory = c.self.inside.directory; files = c.close.new.self; opened = c.self.inside.opened };
      faults = c.self.inside.faults;
      injected = c.self.inside.injected;
      refusals = c.self.inside.refusals;
    } in
    closed_leaves c.args.self.now new c.args.blob (search rules)
