-- What an entry says of the events before it.
use Rattle.std.specs.Prelude.{◌≡◌, ℕ, List, [], ◌∷◌}
use Rattle.rt_audit.specs.declared.call.Call.{Call}
use Rattle.rt_audit.specs.declared.call.Call.TheVariants.{Auditor}
use Rattle.rt_audit.specs.declared.reply.CallReply.{CallReply}
use Rattle.rt_audit.specs.declared.reply.CallReply.TheVariants.{Bytes}
use Rattle.rt_audit.specs.declared.entry.Entry.{Entry}
use Rattle.rt_audit.specs.declared.entry.Entry.TheVariants.{Call as CallEntry}
use Rattle.rt_audit.specs.Journal.{digest_after}

-- an auditor's answer is the digest of the events so far
abbrev pub IsAnswered : List ℕ → Call → CallReply → Type 0
IsAnswered digest Auditor (Bytes bytes) = bytes ≡ digest
IsAnswered digest _ _ = Unit {0}

abbrev pub IsDigested : List ℕ → Entry → Type 0
IsDigested digest (CallEntry by call reply) = IsAnswered digest call reply
IsDigested digest _ = Unit {0}

-- each of the entries says so, after events of this digest
abbrev pub AreDigested : List ℕ → List Entry → Type 0
AreDigested digest [] = Unit {0}
AreDigested digest (e ∷ es) = IsDigested digest e × AreDigested (digest_after digest e) es
