use Rattle.rt_buffer.proofs.Prelude.{◌≤◌, length, refl, ◌∙◌, NoMemory, with_bytes, with_tip, writer, laid_over}
use Rattle.rt_buffer.specs.declared.write_op.Rest.TheVariants as work
use Rattle.rt_buffer.proofs.Changes.{merged_left, merged_less, merged_whole, spent_less}
use Rattle.rt_buffer.proofs.Durable.{call_keeps, unseen}
use Rattle.rt_buffer.proofs.Framed.{ended, runs}
use Rattle.rt_buffer.proofs.Overlaid.{chunks_are}
use Rattle.rt_buffer.proofs.Steps.{writes_left}
use Rattle.rt_buffer.proofs.write.Write.write_at.Goals as goal

pub returns-in-Ok-2-clause-writes : goal.returns-in-Ok-2-clause-writes
returns-in-Ok-2-clause-writes g c = λ fits.
    writes_left g.S.Storage c.args.self.blob c.args.offset c.args.bufs.chunks c.args.task c.args.store.now c.args.self.held c.merge_chunks.new.self c.merge_chunks.new.left c.run.new.store _ (g.E.Env.noted c.args.env.now) (g.E.Env.noted c.run.new.env)
    (rw c.in-Ok.ensures.made at c.in-Ok-2.ensures.tip)
    (rw c.in-Ok.ensures.made at c.in-Ok-2.ensures.left)
    (λ none. c.if-is_empty.ensures.1 none) c.run.ensures.runs

pub returns-in-Ok-merge_chunks-clause-flat : goal.returns-in-Ok-merge_chunks-clause-flat
returns-in-Ok-merge_chunks-clause-flat g c = λ lies knows.
    let m = merged_whole c.args.self.held.tip c.args.offset c.args.bufs.chunks (g.S.Storage.bytes c.args.store.now c.args.self.blob) c.merge_chunks.new.self c.merge_chunks.new.left
    (rw c.in-Ok.ensures.made at c.in-Ok-merge_chunks.ensures.tip) (rw c.in-Ok.ensures.made at c.in-Ok-merge_chunks.ensures.left) (c.if-is_empty.ensures.0 refl) lies in
    (m.0, m.1 ∙ chunks_are c.args.offset c.args.bufs.chunks c.args.bufs.bytes (laid_over c.args.self.held.tip (g.S.Storage.bytes c.args.store.now c.args.self.blob)) c.new.ensures.filled c.new.ensures.joined, knows)

pub returns-in-Ok-2-clause-flat : goal.returns-in-Ok-2-clause-flat
returns-in-Ok-2-clause-flat g c = λ lies knows.
    let m = merged_left c.args.self.held.tip c.args.offset c.args.bufs.chunks (g.S.Storage.bytes c.args.store.now c.args.self.blob) c.merge_chunks.new.self c.merge_chunks.new.left
    (rw c.in-Ok.ensures.made at c.in-Ok-2.ensures.tip) (rw c.in-Ok.ensures.made at c.in-Ok-2.ensures.left) lies in
    let runs = c.run.ensures.runs in
    unseen _ _ c.run.result _ _ (call_keeps g.S.Storage c.args.self.blob c.args.task (with_bytes c.args.offset c.args.bufs.bytes (laid_over c.args.self.held.tip (g.S.Storage.bytes c.args.store.now c.args.self.blob))) (work.Write c.merge_chunks.new.left)
    _ c.run.new.store _ runs.0 (laid_over c.merge_chunks.new.self (g.S.Storage.bytes c.args.store.now c.args.self.blob), m.1 ∙ chunks_are c.args.offset c.args.bufs.chunks c.args.bufs.bytes (laid_over c.args.self.held.tip (g.S.Storage.bytes c.args.store.now c.args.self.blob)) c.new.ensures.filled c.new.ensures.joined, (m.0, refl, knows)) runs.2)

pub returns-in-Ok-2-clause-spent : goal.returns-in-Ok-2-clause-spent
returns-in-Ok-2-clause-spent g c =
    let few : length c.merge_chunks.new.left.chunks ≤ length c.args.bufs.chunks = rw (rw c.in-Ok.ensures.made at c.in-Ok-2.ensures.left) (merged_less c.args.self.held.tip c.args.offset c.args.bufs.chunks) in
    spent_less (length c.merge_chunks.new.left.chunks) (length c.args.bufs.chunks) g.S.Storage.most (g.E.Env.spare c.args.env.now) (g.E.Env.spare c.run.new.env) few c.run.ensures.spent

pub returns-in-Err-clause-others : goal.returns-in-Err-clause-others
returns-in-Err-clause-others g c = λ knows.
    let came = ended g.S.Storage c.args.self.blob c.in-Err.error (writer c.args.store.now c.args.self.held) c.end.new.store _ knows c.end.ensures.ends in
    (came.0, unseen _ _ c.end.result _ _ came.1)

pub returns-in-Err-merge_chunks-clause-others : goal.returns-in-Err-merge_chunks-clause-others
returns-in-Err-merge_chunks-clause-others g c = λ knows.
    let came = ended g.S.Storage c.args.self.blob NoMemory (writer c.args.store.now (with_tip c.args.self.held c.merge_chunks.new.self)) c.end-in-Err-merge_chunks.new.store _ knows c.end-in-Err-merge_chunks.ensures.ends in
    (came.0, unseen _ _ c.end-in-Err-merge_chunks.result _ _ came.1)

pub returns-in-Ok-2-clause-others : goal.returns-in-Ok-2-clause-others
returns-in-Ok-2-clause-others g c = λ knows.
    let ran = c.run.ensures.runs in
    let came = runs g.S.Storage c.args.self.blob (work.Write c.merge_chunks.new.left) c.args.task (writer c.args.store.now (with_tip c.args.self.held c.merge_chunks.new.self)) c.run.new.store _ ran.0 knows ran.2 in
    (came.0, unseen _ _ c.run.result _ _ came.1)
