-- Channels whose waiting tasks lack their cause.
use Rattle.rt_net.proofs.Prelude.{◌≡◌, ℕ, ◌+◌, ◌-◌, ◌<◌, ◌≤◌, true, take, length, Some, Option, arith, ap, subst, sym, ◌∙◌, unwrap_or, common_steps, length-take-le, Ready, Chunked, Inside, IsWhole, channel_of, Parked, ChannelState, IsQuiet, left, held, unread, is_open, Answers, started_length}

-- a `recv` that parks for what is missing
pub parked-quiet : (c : ChannelState) (h len task : ℕ) → held c ≡ h → IsQuiet c → h < len → is_open c.sink ≡ true → is_open c.stream ≡ true → left c < len - h → IsQuiet (record c { receiver = Some (record { need = len - h; task = task }); receiving = Some len })
parked-quiet c h len task same quiet lacks opened alive empty =
    let P : Parked → Type 0 = λ w. (left c < w.need) × (is_open c.sink ≡ true) × (is_open c.stream ≡ true) × (let e : Option ℕ = Some (w.need + held c) in Some len ≡ e) in
    let sum : len ≡ len - h + held c = omega arith in
    record {
      receiver = λ w k.
          let r : Parked = record { need = len - h; task = task } in
          let e : r ≡ w = cc in
          subst P e (empty, opened, alive, ap (λ n. let o : Option ℕ = Some n in o) sum);
      sender = quiet.sender;
      receiving = λ n k l o.
          let e : len ≡ n = cc in
          let d : len - h ≡ n - held c = omega arith in
          (task, ap (λ m. let o : Option Parked = Some (record { need = m; task = task }) in o) d);
      sending = quiet.sending;
      started = quiet.started;
    }

-- a started `recv` whose bytes are held is answered by them
pub answer-started : (p : Inside) (len : ℕ) (b : Chunked) → p.receiving ≡ Some len → len ≤ p.held → p.held ≤ length p.bytes → IsWhole p.forgotten.past → b.bytes ≡ take len p.bytes → Answers (channel_of p) (started_length (channel_of p)) (Ready b)
answer-started p len b started enough within whole bytes =
    let e : len ≡ started_length (channel_of p) = sym (ap (λ (o : Option ℕ). unwrap_or o 0) started) in
    let kept : unread (channel_of p) ≡ p.bytes = grind (arith, common_steps, whole.after) in
    let P : ℕ → Type 0 = λ n. (n ≤ held (channel_of p)) × (length b.bytes ≡ n) × (b.bytes ≡ take n (unread (channel_of p))) in
    subst P e (omega (arith, enough), ap length bytes ∙ length-take-le len p.bytes (omega (arith, enough, within)), bytes ∙ ap (take len) (sym kept))
