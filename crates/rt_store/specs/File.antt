-- A blob: its bytes, those that are durable, and the changes since.
use Rattle.std.specs.Prelude.{ℕ, Bool, true, false, ◌&&◌, ◌||◌, if◌then◌else◌, List, [], ◌∷◌, ◌++◌, take, Option, Some, None}
use Rattle.rt_base.specs.declared.choice.Choice.{Choice}
use Rattle.rt_base.specs.declared.choice.Choice.TheVariants.{Kept, Dropped, Prefix}
use Rattle.rt_base.specs.declared.version.BlobVersion.{BlobVersion}
use Rattle.rt_store.specs.declared.mutation.Mutation.{Mutation}
use Rattle.rt_store.specs.declared.mutation.Mutation.TheVariants.{Write, Resize}
use Rattle.rt_store.specs.Content.{written, resized}

-- `token` is the number of its live token, `base` the bytes that a crash goes back to, and `later` the changes since
-- then, in order of issue
pub record FileState : Type 0 where
  pub version : BlobVersion
  pub token : Option ℕ
  pub removed : Bool
  pub content : List ℕ
  pub base : List ℕ
  pub later : List Mutation

-- a blob that was just made
abbrev pub fresh_file : BlobVersion → ℕ → FileState
fresh_file version token = record { version = version; token = Some token; removed = false; content = []; base = []; later = [] }

-- the bytes after a change
abbrev pub applied : Mutation → List ℕ → List ℕ
applied (Write at bytes durable) old = written at bytes old
applied (Resize len) old = resized len old

abbrev pub is_durable : Mutation → Bool
is_durable (Write at bytes durable) = durable
is_durable (Resize len) = false

-- no change is left to a crash
abbrev pub has_none : List Mutation → Bool
has_none [] = true
has_none (m ∷ ms) = false

-- the change needs no crash to decide over it: the blob was removed, or the change is durable and none before it is open
abbrev pub is_settled : Mutation → FileState → Bool
is_settled m b = b.removed || (is_durable m && has_none b.later)

-- a change is put into the content, and into the base or to the later changes
abbrev pub mutated : Mutation → FileState → FileState
mutated m b =
    if is_settled m b then record b { content = applied m b.content; base = applied m b.base }
    else record b { content = applied m b.content; later = b.later ++ m ∷ [] }

-- the base becomes the content
abbrev pub synced : FileState → FileState
synced b = record b { base = b.content; later = [] }

-- this token is live
abbrev pub with_token : ℕ → FileState → FileState
with_token token b = record b { token = Some token }

-- no token is live; the bytes of a removed blob are gone with it
abbrev pub closed : FileState → FileState
closed b = if b.removed then record b { token = None; content = []; base = [] } else record b { token = None }

-- removed by name: the bytes live on by a live token, and no crash changes them
abbrev pub detached_for : Option ℕ → FileState → FileState
detached_for None b = record b { removed = true; content = []; base = []; later = [] }
detached_for (Some token) b = record b { removed = true; base = b.content; later = [] }

abbrev pub detached : FileState → FileState
detached b = detached_for b.token b

-- the bytes after a crash decided over a change
abbrev pub replayed : Choice → Mutation → List ℕ → List ℕ
replayed Kept m old = applied m old
replayed Dropped m old = old
replayed (Prefix n) (Write at bytes durable) old = written at (take n bytes) old
replayed (Prefix n) (Resize len) old = old

-- the bytes after a crash decided over all changes, in their order
abbrev pub replay : List Mutation → List Choice → List ℕ → List ℕ
replay [] cs old = old
replay (m ∷ ms) [] old = old
replay (m ∷ ms) (c ∷ cs) old = replay ms cs (replayed c m old)

-- base and content are the replayed bytes
abbrev pub crashed : List Choice → FileState → FileState
crashed cs b = record b { content = replay b.later cs b.base; base = replay b.later cs b.base; later = [] }
