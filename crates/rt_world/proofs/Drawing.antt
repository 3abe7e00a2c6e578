-- Calls that draw, and the one that asks for the digest.
use Rattle.rt_world.proofs.Prelude.{◌≡◌, ◌∙◌, ap, ℕ, List, refl, true, Option, Result, Ok, Err, IfOk, OnOk, OnErr, Stream, next_u32, next_u64, fill_bytes, NoMemory, OutOfMemory, Call, NextU32, NextU64, FillBytes, Auditor, CallReply, Number, Bytes, Refused, Heard, Held, Plainly, Plain, Noted, lacking, Seen, Roomed, AreSeated, AreSlotted, World, Drew, Kept, Made, world_lacking, Called, Goes, tells, auditor_told, filled_told, number_told}
use Rattle.rt_world.proofs.Lasting.{lasts-of}
use Rattle.rt_world.proofs.Drawn.{drew-same, drew-short, drew-long, drew-filled}
use Rattle.rt_world.proofs.Signaled.{is_apart, lacked, noted, quiet}
use Rattle.rt_world.proofs.Walked.{called-lacking, called-made, tells-lacking, tells-made, grows-same, stays-marked, stays-same, lasts-kept, calling-kept}

module _ {A O V : Type 0} (tasks : Roomed (ℕ × A)) (outputs : Roomed (ℕ × O)) (sent : Roomed (ℕ × V)) (out by : Option ℕ) (old new : Seen) (i : AreSeated tasks outputs out old.told.state × AreSlotted sent old.told.state.stood.slots) where
  stands : (call : Call) (reply : CallReply) → is_apart call ≡ true → Noted by old new call reply → AreSeated tasks outputs out new.told.state × AreSlotted sent new.told.state.stood.slots
  stands call reply h n = noted tasks outputs sent out by old new i call reply h n

  stands-lacking : new ≡ lacking old → AreSeated tasks outputs out new.told.state × AreSlotted sent new.told.state.stood.slots
  stands-lacking e = lacked tasks outputs sent out by old new i e

  pub short-stands : (result : Result ℕ OutOfMemory) → IfOk result (λ number. Noted by old new NextU32 (Number number)) → OnErr result (new ≡ lacking old) → AreSeated tasks outputs out new.told.state × AreSlotted sent new.told.state.stood.slots
  short-stands (Ok number) n e = stands NextU32 (Number number) refl n
  short-stands (Err lack) n e = stands-lacking e

  pub long-stands : (result : Result ℕ OutOfMemory) → IfOk result (λ number. Noted by old new NextU64 (Number number)) → OnErr result (new ≡ lacking old) → AreSeated tasks outputs out new.told.state × AreSlotted sent new.told.state.stood.slots
  long-stands (Ok number) n e = stands NextU64 (Number number) refl n
  long-stands (Err lack) n e = stands-lacking e

  pub filled-stands : (len : ℕ) (bytes : List ℕ) (result : Result (Unit {0}) OutOfMemory) → OnOk result (Noted by old new (FillBytes len) (Bytes bytes)) → OnErr result (new ≡ lacking old) → AreSeated tasks outputs out new.told.state × AreSlotted sent new.told.state.stood.slots
  filled-stands len bytes (Ok done) n e = stands (FillBytes len) (Bytes bytes) refl n
  filled-stands len bytes (Err lack) n e = stands-lacking e

  pub auditor-stands : (result : Result (List ℕ) OutOfMemory) → IfOk result (λ digest. Noted by old new Auditor (Bytes digest)) → OnErr result (new ≡ lacking old) → AreSeated tasks outputs out new.told.state × AreSlotted sent new.told.state.stood.slots
  auditor-stands (Ok digest) n e = stands Auditor (Bytes digest) refl n
  auditor-stands (Err lack) n e = stands-lacking e

-- what such a call keeps, with the generator as it leaves it
module _ {A O G : Type 0} (stream : G → Stream) (held : Held A O) (panic : Option (List ℕ)) (out : Option ℕ) (rng left : G) (by : Option ℕ) (old new : Seen) where
  abbrev before : World A O G
  before = record { told = old.told; lacked = old.lacked; held = held; panic = panic; out = out; rng = rng }

  abbrev behind : World A O G
  behind = record { told = new.told; lacked = new.lacked; held = held; panic = panic; out = out; rng = left }

  keeps : (call : Call) (reply : CallReply) → is_apart call ≡ true → Noted by old new call reply → Drew stream before behind → Kept stream before behind
  keeps call reply h n drew =
      let q = quiet old.told.state by call reply h in
      record { begin = n.begin; given = n.given; past = n.past; phase = n.phase; clock = n.clock; root = n.root; panic = refl; out = refl; lasts = lasts-of stream _ _ (grows-same old.told.state.phase old.told.state.running new.told.state.running (n.running ∙ q.running)) (stays-same old.lacked new.lacked n.lacked) (drew) }

  keeps-lacking : new ≡ lacking old → left ≡ rng → Kept stream before behind
  keeps-lacking e undrawn =
      record { begin = ap (λ (x : Seen). x.told.begin) e; given = ap (λ (x : Seen). x.told.given) e; past = ap (λ (x : Seen). x.told.past) e; phase = ap (λ (x : Seen). x.told.state.phase) e; clock = ap (λ (x : Seen). x.told.state.clock) e; root = ap (λ (x : Seen). x.told.state.root) e; panic = refl; out = refl; lasts = lasts-of stream _ _ (grows-same old.told.state.phase old.told.state.running new.told.state.running (ap (λ (x : Seen). x.told.state.running) e)) (stays-marked old.lacked new.lacked old.told.state.turns (ap (λ (x : Seen). x.lacked) e)) (drew-same stream before behind undrawn (ap (λ (x : Seen). x.told.state.drawn) e)) }

  pub short-keeps : (result : Result ℕ OutOfMemory) → IfOk result (λ number. Noted by old new NextU32 (Number number)) → OnErr result (new ≡ lacking old) → IfOk result (λ number. (number, stream left) ≡ next_u32 (stream rng)) → OnErr result (left ≡ rng) → Kept stream before behind
  short-keeps (Ok number) n lack gave undrawn = keeps NextU32 (Number number) refl n (drew-short stream before behind number n.drawn gave)
  short-keeps (Err e) n lack gave undrawn = keeps-lacking lack undrawn

  pub long-keeps : (result : Result ℕ OutOfMemory) → IfOk result (λ number. Noted by old new NextU64 (Number number)) → OnErr result (new ≡ lacking old) → IfOk result (λ number. (number, stream left) ≡ next_u64 (stream rng)) → OnErr result (left ≡ rng) → Kept stream before behind
  long-keeps (Ok number) n lack gave undrawn = keeps NextU64 (Number number) refl n (drew-long stream before behind number n.drawn gave)
  long-keeps (Err e) n lack gave undrawn = keeps-lacking lack undrawn

  pub filled-keeps : (len : ℕ) (bytes : List ℕ) (result : Result (Unit {0}) OutOfMemory) → OnOk result (Noted by old new (FillBytes len) (Bytes bytes)) → OnErr result (new ≡ lacking old) → OnOk result ((bytes, stream left) ≡ fill_bytes len (stream rng)) → OnErr result (left ≡ rng) → Kept stream before behind
  filled-keeps len bytes (Ok done) n lack gave undrawn = keeps (FillBytes len) (Bytes bytes) refl n (drew-filled stream before behind len bytes n.answers n.drawn gave)
  filled-keeps len bytes (Err e) n lack gave undrawn = keeps-lacking lack undrawn

  pub auditor-keeps : (result : Result (List ℕ) OutOfMemory) → left ≡ rng → IfOk result (λ digest. Noted by old new Auditor (Bytes digest)) → OnErr result (new ≡ lacking old) → Kept stream before behind
  auditor-keeps (Ok digest) same n lack = keeps Auditor (Bytes digest) refl n (drew-same stream before behind same n.drawn)
  auditor-keeps (Err e) same n lack = keeps-lacking lack same

module _ {A O G : Type 0} (old new : World A O G) where
  pub short-called : (result : Result ℕ OutOfMemory) → IfOk result (λ number. Made old new (Plainly NextU32) (Number number)) → OnErr result (new ≡ world_lacking old) → Called (Plainly NextU32) old new (number_told result)
  short-called (Ok number) made lack = called-made old new (Plainly NextU32) (Number number) (Plain (Number number)) made (refl, tt) refl
  short-called (Err e) made lack = called-lacking old new (Plainly NextU32) (Plain (Refused NoMemory)) lack

  pub long-called : (result : Result ℕ OutOfMemory) → IfOk result (λ number. Made old new (Plainly NextU64) (Number number)) → OnErr result (new ≡ world_lacking old) → Called (Plainly NextU64) old new (number_told result)
  long-called (Ok number) made lack = called-made old new (Plainly NextU64) (Number number) (Plain (Number number)) made (refl, tt) refl
  long-called (Err e) made lack = called-lacking old new (Plainly NextU64) (Plain (Refused NoMemory)) lack

  pub filled-called : (len : ℕ) (bytes : List ℕ) (result : Result (Unit {0}) OutOfMemory) → OnOk result (Made old new (Plainly (FillBytes len)) (Bytes bytes)) → OnErr result (new ≡ world_lacking old) → Called (Plainly (FillBytes len)) old new (filled_told bytes result)
  filled-called len bytes (Ok done) made lack = called-made old new (Plainly (FillBytes len)) (Bytes bytes) (Plain (Bytes bytes)) made (refl, tt) refl
  filled-called len bytes (Err e) made lack = called-lacking old new (Plainly (FillBytes len)) (Plain (Refused NoMemory)) lack

  pub auditor-called : (result : Result (List ℕ) OutOfMemory) → IfOk result (λ digest. Made old new (Plainly Auditor) (Bytes digest)) → OnErr result (new ≡ world_lacking old) → Called (Plainly Auditor) old new (auditor_told result)
  auditor-called (Ok digest) made lack = called-made old new (Plainly Auditor) (Bytes digest) (Plain (Bytes digest)) made (refl, tt) refl
  auditor-called (Err e) made lack = called-lacking old new (Plainly Auditor) (Plain (Refused NoMemory)) lack

-- and what is read of them
module _ {A O G V : Type 0} (old new : World A O G) (read : Heard O → V) (value : V) where
  pub short-tells : (result : Result ℕ OutOfMemory) → IfOk result (λ number. Made old new (Plainly NextU32) (Number number)) → OnErr result (new ≡ world_lacking old) → read (number_told result) ≡ value → Goes (tells (Plainly NextU32) read) old new value tt
  short-tells (Ok number) made lack e = tells-made old new read value (Plainly NextU32) (Number number) (Plain (Number number)) made (refl, tt) refl e
  short-tells (Err error) made lack e = tells-lacking old new read value (Plainly NextU32) lack

  pub long-tells : (result : Result ℕ OutOfMemory) → IfOk result (λ number. Made old new (Plainly NextU64) (Number number)) → OnErr result (new ≡ world_lacking old) → read (number_told result) ≡ value → Goes (tells (Plainly NextU64) read) old new value tt
  long-tells (Ok number) made lack e = tells-made old new read value (Plainly NextU64) (Number number) (Plain (Number number)) made (refl, tt) refl e
  long-tells (Err error) made lack e = tells-lacking old new read value (Plainly NextU64) lack

  pub filled-tells : (len : ℕ) (bytes : List ℕ) (result : Result (Unit {0}) OutOfMemory) → OnOk result (Made old new (Plainly (FillBytes len)) (Bytes bytes)) → OnErr result (new ≡ world_lacking old) → read (filled_told bytes result) ≡ value → Goes (tells (Plainly (FillBytes len)) read) old new value tt
  filled-tells len bytes (Ok done) made lack e = tells-made old new read value (Plainly (FillBytes len)) (Bytes bytes) (Plain (Bytes bytes)) made (refl, tt) refl e
  filled-tells len bytes (Err error) made lack e = tells-lacking old new read value (Plainly (FillBytes len)) lack

  pub auditor-tells : (result : Result (List ℕ) OutOfMemory) → IfOk result (λ digest. Made old new (Plainly Auditor) (Bytes digest)) → OnErr result (new ≡ world_lacking old) → read (auditor_told result) ≡ value → Goes (tells (Plainly Auditor) read) old new value tt
  auditor-tells (Ok digest) made lack e = tells-made old new read value (Plainly Auditor) (Bytes digest) (Plain (Bytes digest)) made (refl, tt) refl e
  auditor-tells (Err error) made lack e = tells-lacking old new read value (Plainly Auditor) lack

-- what is kept where memory was lacking
pub kept-lacking : {A O G : Type 0} (stream : G → Stream) (old new : World A O G) → new ≡ world_lacking old → Kept stream old new
kept-lacking stream old new is = rw is (record { begin = refl; given = refl; past = refl; phase = refl; clock = refl; root = refl; panic = refl; out = refl; lasts = lasts-of stream old (world_lacking old) (grows-same _ _ _ refl) (stays-marked _ _ _ refl) (drew-same stream old (world_lacking old) refl refl) })

pub ruleset lack_laws = (kept-lacking)

pub ruleset drawing_tell_laws = (short-tells, long-tells, filled-tells, auditor-tells, lasts-of, stays-same, stays-marked, grows-same, drew-same, lasts-kept, calling-kept)

pub ruleset drawing_laws = (short-stands, long-stands, filled-stands, auditor-stands, short-called, long-called, filled-called, auditor-called)
