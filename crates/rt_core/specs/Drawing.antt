-- What calls that draw do next, and the one that asks for the digest.
use Rattle.std.specs.Prelude.{ℕ, List, Result, Ok, Err}
use Rattle.rt_base.specs.declared.error.Error.{Error}
use Rattle.rt_base.specs.declared.error.Error.TheVariants.{NoMemory}
use Rattle.rt_audit.specs.declared.call.Call.TheVariants.{NextU32, NextU64, FillBytes, Auditor}
use Rattle.rt_audit.specs.declared.reply.CallReply.{CallReply}
use Rattle.rt_audit.specs.declared.reply.CallReply.TheVariants.{Number, Bytes, Refused}
use Rattle.rt_model.specs.Turns.{Plainly, Heard, Plain, Handed}
use Rattle.rt_model.specs.Walk.{Step}
use Rattle.rt_world.specs.Walked.{tells}

-- a number that was drawn
abbrev pub number_replied : CallReply → Result ℕ Error
number_replied (Number number) = Ok number
number_replied (Refused error) = Err error
number_replied _ = Err NoMemory

abbrev pub number_heard : {O : Type 0} → Heard O → Result ℕ Error
number_heard (Plain reply) = number_replied reply
number_heard (Handed value) = Err NoMemory

-- bytes that were drawn, or those of the digest
abbrev pub bytes_replied : CallReply → Result (List ℕ) Error
bytes_replied (Bytes bytes) = Ok bytes
bytes_replied (Refused error) = Err error
bytes_replied _ = Err NoMemory

abbrev pub bytes_heard : {O : Type 0} → Heard O → Result (List ℕ) Error
bytes_heard (Plain reply) = bytes_replied reply
bytes_heard (Handed value) = Err NoMemory

-- what a call that fills has put there
abbrev pub filled_with : List ℕ → Result (Unit {0}) Error → Result (List ℕ) Error
filled_with bytes (Ok done) = Ok bytes
filled_with bytes (Err error) = Err error

unfoldable pub asks_u32 : {A O : Type 0} → Step A (Unit {0}) O (Result ℕ Error)
asks_u32 = tells (Plainly NextU32) number_heard

unfoldable pub asks_u64 : {A O : Type 0} → Step A (Unit {0}) O (Result ℕ Error)
asks_u64 = tells (Plainly NextU64) number_heard

unfoldable pub asks_bytes : {A O : Type 0} → ℕ → Step A (Unit {0}) O (Result (List ℕ) Error)
asks_bytes len = tells (Plainly (FillBytes len)) bytes_heard

unfoldable pub asks_auditor : {A O : Type 0} → Step A (Unit {0}) O (Result (List ℕ) Error)
asks_auditor = tells (Plainly Auditor) bytes_heard
