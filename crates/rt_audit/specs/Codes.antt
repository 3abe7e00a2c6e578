-- The numbers of errors.
use Rattle.std.specs.Prelude.{ℕ}
use Rattle.rt_base.specs.declared.error.Error.{Error}
use Rattle.rt_base.specs.declared.error.Error.TheVariants.{Exited, Closed, Aborted, Timeout, BindFailed, ConnectionFailed, SendFailed, RecvFailed, ResolveFailed, PortsExhausted, ClockOverflow, UnknownToken, TooManyTasks, Metric, BlobInsufficientLength, OffsetOverflow, BlobAlreadyOpen, PartitionNameInvalid, PartitionMissing, BlobMissing, BlobVersionMismatch, Io}

-- the number that a refused call shows
abbrev pub code_of : Error → ℕ
code_of Exited = 1
code_of Closed = 2
code_of Aborted = 3
code_of Timeout = 4
code_of BindFailed = 5
code_of ConnectionFailed = 6
code_of SendFailed = 7
code_of RecvFailed = 8
code_of (ResolveFailed host) = 9
code_of PortsExhausted = 10
code_of ClockOverflow = 11
code_of UnknownToken = 12
code_of TooManyTasks = 13
code_of (Metric kind) = 14
code_of BlobInsufficientLength = 15
code_of OffsetOverflow = 16
code_of (BlobAlreadyOpen partition blob) = 17
code_of (PartitionNameInvalid name) = 18
code_of (PartitionMissing name) = 19
code_of (BlobMissing partition blob) = 20
code_of (BlobVersionMismatch expected found) = 21
code_of (Io kind) = 22
code_of other = 23
