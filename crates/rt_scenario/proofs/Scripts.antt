use Rattle.rt_scenario.proofs.Prelude.{◌≡◌, ℕ, suc, ◌+◌, ◌<◌, Bool, true, false, not, ◌||◌, nat_lt, cond, if◌then◌else◌, List, [], ◌∷◌, ◌++◌, length, map, position, Option, Some, None, is_some, is_none, ◌&&◌, ◌==◌, Err, refl, sym, ap, subst, ◌∙◌, arith, add-one, one-add, All, list_any, position_or_len, nat_tests, length_push, map-append, All-cons, All-head, option_map, is_text, Draft, CanRun, CanRunLine, is_placed, is_runnable, script_at, scripts_at, onto_places, row, select_row, nat_list_eq_equiv, insert_last, IsBare, IsSetting, RunLine, ScriptText, Settings, Word, Seed, Next, Cycle, Start, Timeout, Catch, Yield, Draw, Pend, Select, Done}
use Rattle.rt_scenario.specs.declared.kind.Kind.TheVariants as kind

-- a word more than there may be
pub bare_count : (d : Draft) (word : Word) (ws : List (List ℕ)) → IsBare word → 0 < length ws → row d word ws ≡ Err kind.Count
bare_count d word [] bare some = absurd (omega arith)
bare_count d Yield (w ∷ ws) bare some = refl
bare_count d Draw (w ∷ ws) bare some = refl
bare_count d Pend (w ∷ ws) bare some = refl
bare_count d Done (w ∷ ws) bare some = refl
bare_count d _ (w ∷ ws) bare some = absurd bare

-- a choice among some
pub select_some : (d : Draft) (ws : List (List ℕ)) → 0 < length ws → row d Select ws ≡ select_row d ws
select_some d [] some = absurd (omega (arith, some))
select_some d (w ∷ ws) some = refl

-- a name's index among the names is the place of its script
place_named : (name : List ℕ) (ss : List ScriptText) → position (is_text name) (map (λ (s : ScriptText). s.name) ss) ≡ script_at ss name
place_named name [] = refl
place_named name (s ∷ ss) = by (is_text name s.name) refl (place_named name ss)
  where
    names : List (List ℕ)
    names = map (λ (t : ScriptText). t.name) ss

    place : ℕ
    place = position_or_len (is_text name) names

    some : nat_lt 0 (suc (length names)) ≡ true
    some = grind (arith, nat_tests)

    further : nat_lt (1 + place) (suc (length names)) ≡ nat_lt place (length names)
    further = grind (arith, nat_tests)

    next : (b : Bool) → cond b (Some (1 + place)) None ≡ option_map (λ n. n + 1) (cond b (Some place) None)
    next true = ap Some (one-add place ∙ sym (add-one place))
    next false = refl

    by : (b : Bool) → is_text name s.name ≡ b → position (is_text name) names ≡ script_at ss name → cond (nat_lt (cond (not b) (1 + place) 0) (suc (length names))) (Some (cond (not b) (1 + place) 0)) None ≡ (if is_text s.name name then Some 0 else option_map (λ n. n + 1) (script_at ss name))
    by true e more =
        ap (λ b. cond b (Some 0) None) some
        ∙ sym (ap (λ b. if b then Some 0 else option_map (λ n. n + 1) (script_at ss name)) (nat_list_eq_equiv.symm s.name name ∙ e))
    by false e more =
        ap (λ b. cond b (Some (1 + place)) None) further
        ∙ next (nat_lt place (length names))
        ∙ ap (option_map (λ n. n + 1)) more
        ∙ sym (ap (λ b. if b then Some 0 else option_map (λ n. n + 1) (script_at ss name)) (nat_list_eq_equiv.symm s.name name ∙ e))

-- where the index of a name was looked up
pub place_found : (names : List (List ℕ)) (name key : List ℕ) (ss : List ScriptText) (found : Option ℕ) → found ≡ position (is_text key) names → key ≡ name → names ≡ map (λ (s : ScriptText). s.name) ss → found ≡ script_at ss name
place_found names name key ss found at same all = at ∙ ap (λ k. position (is_text k) names) same ∙ ap (position (is_text name)) all ∙ place_named name ss

mapped_some : (o : Option ℕ) → is_some (option_map (λ n. n + 1) o) ≡ is_some o
mapped_some None = refl
mapped_some (Some n) = refl

-- a name is among the names where a script has it
is_named : (name : List ℕ) (ss : List ScriptText) → list_any (is_text name) (map (λ (s : ScriptText). s.name) ss) ≡ is_some (script_at ss name)
is_named name [] = refl
is_named name (s ∷ ss) = by (is_text name s.name) refl (is_named name ss)
  where
    rest : Bool
    rest = list_any (is_text name) (map (λ (t : ScriptText). t.name) ss)

    by : (b : Bool) → is_text name s.name ≡ b → rest ≡ is_some (script_at ss name) → (b || rest) ≡ is_some (if is_text s.name name then Some 0 else option_map (λ n. n + 1) (script_at ss name))
    by true e more = rw (nat_list_eq_equiv.symm s.name name, e) refl
    by false e more = rw (nat_list_eq_equiv.symm s.name name, e) (more ∙ sym (mapped_some (script_at ss name)))

pub none_some : (o : Option ℕ) → is_some o ≡ false → o ≡ None
none_some None h = refl
none_some (Some n) h = absurd (cc)

-- whether a name was found among the names
pub known : (names : List (List ℕ)) (name key : List ℕ) (ss : List ScriptText) (found : Bool) → found ≡ list_any (is_text key) names → key ≡ name → names ≡ map (λ (s : ScriptText). s.name) ss → found ≡ is_some (script_at ss name)
known names name key ss found is same all = is ∙ ap (λ k. list_any (is_text k) names) same ∙ ap (list_any (is_text name)) all ∙ is_named name ss

-- a script more has its name behind the others
pub name_more : (names : List (List ℕ)) (ss : List ScriptText) (t : ScriptText) → names ≡ map (λ (s : ScriptText). s.name) ss → script_at ss t.name ≡ None → insert_last is_text names t.name ≡ map (λ (s : ScriptText). s.name) (ss ++ t ∷ [])
name_more names ss t same absent =
    let none : list_any (is_text t.name) names ≡ false = rw (same) (is_named t.name ss ∙ ap is_some absent) in
    rw (none, same) (sym (map-append (λ (s : ScriptText). s.name) ss (t ∷ [])))

some_same : (i j : ℕ) → Some i ≡ Some j → i ≡ j
some_same i j e = cc

-- a place that lies so far from the front lies within
bound_by : (b : Bool) (o : Option ℕ) (n place : ℕ) → ((i : ℕ) → o ≡ Some i → i < n) → (if b then Some 0 else option_map (λ k. k + 1) o) ≡ Some place → place < suc n
bound_by true o n place h e = omega (arith, some_same 0 place e)
bound_by false None n place h e = absurd (cc)
bound_by false (Some i) n place h e = omega (arith, h i refl, some_same (i + 1) place e)

-- a script that is found is there
pub script_at_bound : (ss : List ScriptText) (name : List ℕ) (place : ℕ) → script_at ss name ≡ Some place → place < length ss
script_at_bound [] name place e = absurd (cc)
script_at_bound (s ∷ ss) name place e = bound_by (is_text s.name name) (script_at ss name) (length ss) place (λ i h. script_at_bound ss name i h) e

-- scripts that can be run can be run among more
can_run_more : (ss : List ScriptText) (t : ScriptText) (settings : Settings) (places : List ℕ) → All (CanRun ss settings) places → All (CanRun (ss ++ t ∷ []) settings) places
can_run_more ss t settings places can k d inside = (omega (arith, (can k d inside).0, length_push ss t), (can k d inside).1)

pub can_run_lines : (ss : List ScriptText) (t : ScriptText) (settings : Settings) (lines : List RunLine) → All (CanRunLine ss settings) lines → All (CanRunLine (ss ++ t ∷ []) settings) lines
can_run_lines ss t settings lines can k d inside =
    let line = can k d inside in
    ((omega (arith, line.0.0, length_push ss t), line.0.1), can_run_more ss t settings _ line.1)

onto_found : (o : Option ℕ) (p : ℕ) (more : Option (List ℕ)) (ps : List ℕ) → o ≡ Some p → option_map (λ qs. (p ∷ []) ++ qs) more ≡ Some ps → onto_places o more ≡ Some ps
onto_found o p more ps e f = rw e f

-- the root's script is found, and then the others
pub run_found : (ss : List ScriptText) (root : List ℕ) (words : List (List ℕ)) (p : ℕ) (ps : List ℕ) → script_at ss root ≡ Some p → option_map (λ qs. (p ∷ []) ++ qs) (scripts_at ss words) ≡ Some ps → scripts_at ss (root ∷ words) ≡ Some ps
run_found ss root words p ps e f = onto_found (script_at ss root) p (scripts_at ss words) ps e f

-- the root is among them
pub some_found : (o : Option (List ℕ)) (p : ℕ) (places : List ℕ) → option_map (λ qs. (p ∷ []) ++ qs) o ≡ Some places → 0 < length places
some_found None p places e = absurd (cc)
some_found (Some qs) p places e = let same : p ∷ qs ≡ places = cc in omega (arith, ap length same)

onto_bound : (o : Option ℕ) (more : Option (List ℕ)) (n : ℕ) (ps : List ℕ) → ((i : ℕ) → o ≡ Some i → i < n) → ((qs : List ℕ) → more ≡ Some qs → All (λ p. p < n) qs) → onto_places o more ≡ Some ps → All (λ p. p < n) ps
onto_bound None more n ps one others e = absurd (cc)
onto_bound (Some i) None n ps one others e = absurd (cc)
onto_bound (Some i) (Some qs) n ps one others e =
    let same : i ∷ qs ≡ ps = cc in
    subst (λ l. All (λ p. p < n) l) same (All-cons (λ p. p < n) i qs (one i refl) (others qs refl))

-- scripts that are found are there
pub scripts_at_bound : (ss : List ScriptText) (names : List (List ℕ)) (ps : List ℕ) → scripts_at ss names ≡ Some ps → All (λ p. p < length ss) ps
scripts_at_bound ss [] ps e =
    let same : [] ≡ ps = cc in
    subst (λ l. All (λ p. p < length ss) l) same (λ k d inside. absurd (omega (arith, inside)))
scripts_at_bound ss (name ∷ names) ps e =
    onto_bound (script_at ss name) (scripts_at ss names) (length ss) ps (λ i h. script_at_bound ss name i h) (λ qs h. scripts_at_bound ss names qs h) e

-- settings stand before the first run
first_none : (b c : Bool) (runs : List RunLine) → ((b && (length runs == 0)) && c) ≡ true → runs ≡ []
first_none b c [] h = refl
first_none true true (run ∷ runs) h = absurd (grind (arith, nat_tests))
first_none true false (run ∷ runs) h = absurd (grind (arith, nat_tests))
first_none false c (run ∷ runs) h = cc

pub setting_none : (d : Draft) (word : Word) → IsSetting word → is_placed d word ≡ true → d.runs ≡ []
setting_none d Seed s h = first_none (is_none d.current) (length d.scripts == 0) d.runs h
setting_none d Next s h = first_none (is_none d.current) (length d.scripts == 0) d.runs h
setting_none d Cycle s h = first_none (is_none d.current) (length d.scripts == 0) d.runs h
setting_none d Start s h = first_none (is_none d.current) (length d.scripts == 0) d.runs h
setting_none d Timeout s h = first_none (is_none d.current) (length d.scripts == 0) d.runs h
setting_none d Catch s h = first_none (is_none d.current) (length d.scripts == 0) d.runs h
setting_none d _ s h = absurd s

-- a line that can be run has settings that can be kept
pub runnable_of : (ss : List ScriptText) (settings : Settings) (lines : List RunLine) → (lines ≡ [] → ⊥) → All (CanRunLine ss settings) lines → is_runnable settings ≡ true
runnable_of ss settings [] some can = absurd (some refl)
runnable_of ss settings (line ∷ lines) some can = (All-head (CanRunLine ss settings) line lines can).0.1
