use Rattle.rt_store.proofs.Prelude.{ℕ, List, subst, TakesFields, blob_fields}
use Rattle.std.proofs.Common.{slice_get}
use Rattle.rt_store.proofs.Audited.{takes_all, takes_more}
use Rattle.rt_store.proofs.auditing.audit_names.Goals as goal

pub loop-name-preserved : goal.loop-name-preserved
loop-name-preserved c =
    let fields = λ (e : List ℕ × ℕ). blob_fields c.args.partition.now e.0 (slice_get c.args.files.now e.1) in
    let place = c.in-Some.place.now in
    let here : TakesFields (fields (c.in-Some.name.now.items, place)) c.loop-name.hasher c.audit_blob.new.hasher =
    subst (λ (name : List ℕ). TakesFields (fields (name, place)) c.loop-name.hasher c.audit_blob.new.hasher) c.as_slice.ensures.value c.audit_blob.ensures in
    λ new behind. c.loop-name.invariant new (takes_more fields c.loop-name.name-iterator (c.in-Some.name.now, place) c.next.new.self
    c.loop-name.hasher c.audit_blob.new.hasher new c.in-Some.ensures.steps here behind)

pub returns : goal.returns
returns c =
    let fields = λ (e : List ℕ × ℕ). blob_fields c.args.partition.now e.0 (slice_get c.args.files.now e.1) in
    c.loop-name.invariant c.loop-name.hasher (takes_all fields c.loop-name.name-iterator c.loop-name.hasher c.in-None.ensures.steps.0)
