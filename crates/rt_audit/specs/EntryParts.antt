-- What contracts see of the parts of entries that are kept in more than one form.
use Rattle.std.specs.Prelude.{ℕ, List, [], ◌∷◌}
use Rattle.rt_audit.specs.declared.event_label.LabelKind.{LabelKind}
use Rattle.rt_audit.specs.declared.event_label.LabelKind.TheVariants.{ProcessTask, Named}
use Rattle.rt_audit.specs.declared.event_fields.FieldsKind.{FieldsKind}
use Rattle.rt_audit.specs.declared.event_fields.FieldsKind.TheVariants.{OfTask, OfTaskInPlace, Listed}
use Rattle.rt_audit.specs.declared.order.OrderKind.{OrderKind}
use Rattle.rt_audit.specs.declared.order.OrderKind.TheVariants.{One, Many}
use Rattle.rt_hasher.specs.TaskEvent.{task_event}

-- the label of an event
abbrev pub label_of : LabelKind → List ℕ
label_of ProcessTask = task_event
label_of (Named label) = label

-- its fields
abbrev pub fields_of : FieldsKind → List (List ℕ)
fields_of (OfTask label number) = number ∷ label ∷ []
fields_of (OfTaskInPlace label number) = number ∷ label ∷ []
fields_of (Listed fields) = fields

-- the numbers of a round
abbrev pub order_of : OrderKind → List ℕ
order_of (One numbers) = numbers
order_of (Many numbers) = numbers
