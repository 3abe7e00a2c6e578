use Rattle.rt_net.proofs.Prelude.{◌≡◌, ◌+◌, ◌∷◌, [], ◌++◌, true, Some, None, Option, ℕ, sym, ap, ◌∙◌, rules, append_assoc, is_some, slice_set, connected, next_connection, fresh, live_listener, listener_at, is_alive, with_connection, Kept, moved_to, the_view, asked_of, slice_get}
use Rattle.rt_net.proofs.Left.{added-asked}
use Rattle.rt_net.proofs.Live.{live-there, after-at}
use Rattle.rt_net.proofs.net.Net.connect.Goals as goal

pub returns-clause-after : goal.returns-clause-after
returns-clause-after c =
    let old = c.self.inside in
    let ls = old.listeners.items in
    let cs = old.channels.items in
    let n = c.in-Some.listener in
    let next = next_connection (the_view old).state in
    let at : listener_at c.args.self.now.state c.args.socket ≡ Some n = search rules in
    let has : is_some (live_listener ls n) ≡ true = search rules in
    let live = live-there is_alive ls n c.index_mut.result.now (c.index_mut.ensures.value, has) in
    let pushed : c.push.new.self ≡ record c.index_mut.result.now { waiting = c.index_mut.result.now.waiting ++ next ∷ []; task = None } = search rules in
    let left : slice_set ls n c.push.new.self ≡ with_connection ls n next = after-at ls n c.index_mut.result.now c.push.new.self (λ l. record l { waiting = l.waiting ++ next ∷ []; task = None }) (live_listener ls n) live pushed in
    let made : c.push_reserved-2.new.self.items ≡ cs ++ fresh 65536 ∷ fresh 65536 ∷ [] = search (rules, append_assoc) in
    (λ j. record { state = record { port = old.port + 1; addresses = old.addresses.keys; listeners = left j; channels = made j; woken = old.woken.items }; refusals = old.refusals })
    ∙ ap (λ (v : Kept). moved_to v (connected v.state (Some n))) c.self.view_is
    ∙ ap (λ (o : Option ℕ). moved_to c.args.self.now (connected c.args.self.now.state o)) (sym at)

pub returns-clause-waiting : goal.returns-clause-waiting
returns-clause-waiting c n =
    let cs = c.self.inside.channels.items in
    let made : c.push_reserved-2.new.self.items ≡ cs ++ fresh 65536 ∷ fresh 65536 ∷ [] = search (rules, append_assoc) in
    ap (λ ks. asked_of (slice_get ks n)) made ∙ added-asked cs n ∙ ap (λ (v : Kept). asked_of (slice_get v.state.channels n)) c.self.view_is
