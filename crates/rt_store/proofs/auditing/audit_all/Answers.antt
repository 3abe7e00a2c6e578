use Rattle.rt_store.proofs.Prelude.{ℕ, List, subst, TakesFields, names_fields, shelf_fields, Names}
use Rattle.std.proofs.Common.{Option, slice_get}
use Rattle.rt_store.proofs.Audited.{takes_all, takes_more, takes_none}
use Rattle.rt_store.proofs.auditing.audit_all.Goals as goal

pub loop-partition-preserved-in-Some-shelf : goal.loop-partition-preserved-in-Some-shelf
loop-partition-preserved-in-Some-shelf c =
    let fields = λ (e : List ℕ × ℕ). shelf_fields c.args.files.now e.0 (slice_get c.args.directory.now.shelves e.1) in
    let name = c.in-Some.partition.now in
    let shelf = c.in-Some.shelf.now in
    let taken : TakesFields (names_fields c.args.files.now name.items c.in-Some-shelf.names.now) c.loop-partition.hasher c.audit_names.new.hasher =
    subst (λ (n : List ℕ). TakesFields (names_fields c.args.files.now n c.in-Some-shelf.names.now) c.loop-partition.hasher c.audit_names.new.hasher) c.as_slice.ensures.value c.audit_names.ensures in
    let here : TakesFields (fields (name.items, shelf)) c.loop-partition.hasher c.audit_names.new.hasher =
    subst (λ (names : Option Names). TakesFields (shelf_fields c.args.files.now name.items names) c.loop-partition.hasher c.audit_names.new.hasher) c.in-Some-shelf.ensures taken in
    λ new behind. c.loop-partition.invariant new (takes_more fields c.loop-partition.partition-iterator (name, shelf) c.next.new.self
    c.loop-partition.hasher c.audit_names.new.hasher new c.in-Some.ensures.steps here behind)

pub loop-partition-preserved : goal.loop-partition-preserved
loop-partition-preserved c =
    let fields = λ (e : List ℕ × ℕ). shelf_fields c.args.files.now e.0 (slice_get c.args.directory.now.shelves e.1) in
    let name = c.in-Some.partition.now in
    let shelf = c.in-Some.shelf.now in
    let register = c.loop-partition.hasher in
    let here : TakesFields (fields (name.items, shelf)) register register =
    subst (λ (names : Option Names). TakesFields (shelf_fields c.args.files.now name.items names) register register) c.in_default.ensures (takes_none register) in
    λ new behind. c.loop-partition.invariant new (takes_more fields c.loop-partition.partition-iterator (name, shelf) c.next.new.self
    register register new c.in-Some.ensures.steps here behind)

pub returns : goal.returns
returns c =
    let fields = λ (e : List ℕ × ℕ). shelf_fields c.args.files.now e.0 (slice_get c.args.directory.now.shelves e.1) in
    c.loop-partition.invariant c.loop-partition.hasher (takes_all fields c.loop-partition.partition-iterator c.loop-partition.hasher c.in-None.ensures.steps.0)
