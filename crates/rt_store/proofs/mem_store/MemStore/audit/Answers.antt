use Rattle.rt_store.proofs.Prelude.{◌≡◌, [], subst, fields_digest, audit_fields, partitions_fields, Kept}
use Rattle.rt_store.proofs.mem_store.MemStore.audit.Goals as goal

pub returns-clause-digest : goal.returns-clause-digest
returns-clause-digest c =
    let inside = c.self.inside in
    subst (λ (store : Kept). c.finalize.result ≡ fields_digest (audit_fields store.state)) c.self.view_is
    (c.finalize.ensures.digest (partitions_fields inside.files inside.directory.shelves inside.directory.shelf) (c.audit_all.ensures [] c.new-hasher.ensures))
