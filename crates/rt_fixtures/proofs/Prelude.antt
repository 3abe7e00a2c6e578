-- What the proofs of this crate cite of others and of the definitions, under one name.
pub use Rattle.std.proofs.Common.{Bool, List, None, Option, Some, [], ap, arith, inl, inr, length, refl, rules, subst, suc, sym, take, true, vec_len, zero, ℕ, ◌++◌, ◌+◌, ◌∙◌, ◌∷◌, ◌≡◌, ◌≤◌}
pub use Rattle.std.proofs.lemmas.List.{append-nil, append_assoc, length-append}
pub use Rattle.std.specs.List.{concat}
pub use Rattle.std.specs.Prelude.{codes, vec_capacity}
pub use Rattle.rt_base.specs.Noted.{Adds, Happened, Noted}
pub use Rattle.rt_base.specs.declared.event.Event.{Event}
pub use Rattle.rt_fixtures.specs.Noting.{closing_event, named, receipt}
