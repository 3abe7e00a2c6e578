-- Used in proofs and in clauses of private functions alone: no public clause names these definitions.
-- What numbers have, as the tables of supervision keep it.
pub use Rattle.rt_super.specs.Rows.{rows, Rows, total}
