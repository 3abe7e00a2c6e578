use Rattle.rt_scenario.proofs.Prelude.{◌≡◌, ℕ, ◌++◌, List, length, take, map, slice_index, refl, ap, ◌∙◌, rules, take-append_seam, length-map, in_order, name_at, named_by, placed_at, all_names, place_of, placed}
use Rattle.rt_scenario.proofs.Indexed.{placed_choices, placed_named}
use Rattle.rt_scenario.proofs.open_script.OpenScript.close.Goals as goal

-- a list that was written over as a whole
written_over : {X : Type 0} (new rest : List X) (n : ℕ) → length new ≡ n → take n (new ++ rest) ≡ new
written_over new rest n long = rw (← long) (take-append_seam new rest)

pub place_lines-requires : goal.place_lines-requires
place_lines-requires c =
    let names = c.self.inside.handles in
    let places = map (place_of (in_order names)) names in
    let for_lines : c.as_slice.result.now ≡ places = c.as_slice.ensures.value ∙ c.in_ok-handles.ensures.places in
    rw (for_lines, length-map names (place_of (in_order names)), c.as_mut_slice.ensures.value) c.self.invariant.0

pub returns : goal.returns
returns c =
    let names = c.self.inside.handles in
    let lines = c.self.inside.lines.items in
    let choices = c.self.inside.choices.items in
    let order : all_names (map (named_by names) lines) (map (name_at names) choices) ≡ in_order names = c.self.invariant.2 in
    let handles : c.of-2.result ≡ in_order names = search rules in
    let places = map (place_of (in_order names)) names in
    let for_lines : c.as_slice.result.now ≡ places = c.as_slice.ensures.value ∙ c.in_ok-handles.ensures.places in
    let written : c.of.result ≡ c.place_lines.new.lines =
    c.of.ensures ∙ written_over c.place_lines.new.lines _ c.self.inside.lines.len (c.place_lines.auto.lines ∙ c.as_mut_slice.ensures.len) in
    let made : c.of.result ≡ map (placed_at places) lines =
    written ∙ c.place_lines.ensures ∙ ap (λ ps. map (placed_at ps) c.as_mut_slice.result.now) for_lines ∙ ap (map (placed_at places)) c.as_mut_slice.ensures.value in
    let placed_lines : c.of.result ≡ map (placed (in_order names)) (map (named_by names) lines) = made ∙ placed_named names (in_order names) lines c.self.invariant.0 in
    let words : c.of-3.result ≡ c.self.inside.words.items = search rules in
    let for_choices : c.as_slice-2.result.now ≡ places = c.as_slice-2.ensures.value ∙ c.in_ok-handles.ensures.places in
    let rewritten : c.of-4.result ≡ c.place_choices.new.choices =
    c.of-4.ensures ∙ written_over c.place_choices.new.choices _ c.self.inside.choices.len (c.place_choices.auto.choices ∙ c.as_mut_slice-2.ensures.len) in
    let chosen : c.of-4.result ≡ map (slice_index places) choices =
    rewritten ∙ c.place_choices.ensures ∙ ap (λ ps. map (slice_index ps) c.as_mut_slice-2.result.now) for_choices ∙ ap (map (slice_index places)) c.as_mut_slice-2.ensures.value in
    let placed_all : c.of-4.result ≡ map (place_of (in_order names)) (map (name_at names) choices) = chosen ∙ placed_choices names (in_order names) choices c.self.invariant.1 in
    rw (← c.self.view_is, order, handles, placed_lines, words, placed_all) refl
