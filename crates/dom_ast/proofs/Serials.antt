-- Serial runs: numbers in range, arrays of which none is empty, and what steps come to.
use Rattle.std.proofs.Common.{◌≡◌, ℕ, zero, add-one, suc, ◌+◌, ◌<◌, if◌then◌else◌, Bool, true, false, ◌&&◌, Option, None, Some, List, [], ◌∷◌, ◌++◌, map, length, take, drop, replicate, refl, sym, ap, ◌∙◌, slice_index_or, nat_eq, nat_lt, nat_le, arith}
use Rattle.std.proofs.Math.Bool.{and-true}
use Rattle.std.proofs.Math.Seq.{drop-cons, take-append_seam}
use Rattle.std.proofs.lemmas.Bool.{and_from, and_parts, eqb-true}
use Rattle.std.proofs.lemmas.List.{length-map, length-replicate}
use Rattle.std.proofs.lemmas.List.Folds.{list_all-append, list_all-map}
use Rattle.std.specs.List.{filter, list_all}
use Rattle.std.specs.Prelude.{Box}
use Rattle.std.specs.declared.alloc.Global.{Global}
use Rattle.dom_words.specs.State.{Hash, IsStateOf, are_lengths, array_of, is_length, started}
use Rattle.dom_words.specs.declared.array.Array.{Array}
use Rattle.dom_words.specs.declared.hash.HashName.{HashName}
use Rattle.dom_words.specs.declared.operators.BinOp.{BinOp}
use Rattle.dom_ast.specs.declared.checked.Act.{Act}
use Rattle.dom_ast.specs.declared.part.Part.{Part}
use Rattle.dom_ast.specs.declared.part.Part.TheViews.{Chain}
use Rattle.dom_ast.proofs.PartForms.{form_chain}
use Rattle.dom_ast.specs.Kept.{Ranges, act_visits, acts_visits, are_within, bodies_visits, parts_count, goal_within, guard_visits, resolved_ranges, visit_within, ops_within, part_within, parts_within}
use Rattle.dom_ast.specs.Meaning.{Env, all_acted, all_chosen, entering, folded, is_chosen, names_in, one_packet, value_in}
use Rattle.dom_ast.specs.Resolved.{PartForm, ActForm, assign, branch, ActForms, no_acts, act, BodyForm, act_form, act_forms, bodies_form, body_form, guard_form, call, form, forms}
use Rattle.dom_ast.specs.inner.PartOps.{op_forms}
use Rattle.dom_ast.specs.Serial.{IsPlaceOf}
use Rattle.dom_ast.specs.inner.Runs.{act_within, acts_within, all_run, are_filled, bodies_within, guard_within, picked, ranges_over}

pub part_within_at : (r : Ranges) (parts : List Part) (k : ℕ) (p : Part) → k < length parts → p ≡ slice_index_or parts k p → parts_within r (forms parts) ≡ true → part_within r (form p) ≡ true
part_within_at r [] k p inside at ok = absurd (omega arith)
part_within_at r (q ∷ parts) zero p inside at ok = ap (λ (x : Part). part_within r (form x)) at ∙ (and_parts (part_within r (form q)) (parts_within r (forms parts)) ok).0
part_within_at r (q ∷ parts) (suc k) p inside at ok = part_within_at r parts k p (omega arith) at (and_parts (part_within r (form q)) (parts_within r (forms parts)) ok).1

pub operand_within_at : (r : Ranges) (rest : List (BinOp × Part)) (k : ℕ) (p : BinOp × Part) → k < length rest → p ≡ slice_index_or rest k p → ops_within r (op_forms rest) ≡ true → part_within r (form p.1) ≡ true
operand_within_at r [] k p inside at ok = absurd (omega arith)
operand_within_at r (q ∷ rest) zero p inside at ok = ap (λ (x : BinOp × Part). part_within r (form x.1)) at ∙ (and_parts (part_within r (form q.1)) (ops_within r (op_forms rest)) ok).0
operand_within_at r (q ∷ rest) (suc k) p inside at ok = operand_within_at r rest k p (omega arith) at (and_parts (part_within r (form q.1)) (ops_within r (op_forms rest)) ok).1

pub act_within_at : (r : Ranges) (acts : List Act) (k : ℕ) (a : Act) → k < length acts → a ≡ slice_index_or acts k a → acts_within r (act_forms acts) ≡ true → act_within r (act_form a) ≡ true
act_within_at r [] k a inside at ok = absurd (omega arith)
act_within_at r (b ∷ acts) zero a inside at ok = ap (λ (x : Act). act_within r (act_form x)) at ∙ (and_parts (act_within r (act_form b)) (acts_within r (act_forms acts)) ok).0
act_within_at r (b ∷ acts) (suc k) a inside at ok = act_within_at r acts k a (omega arith) at (and_parts (act_within r (act_form b)) (acts_within r (act_forms acts)) ok).1

-- whether arrays are filled hangs on their lengths alone
pub filled_alike : (xs ys : List (List ℕ)) → map (length {A = ℕ}) xs ≡ map (length {A = ℕ}) ys → are_filled ys ≡ true → are_filled xs ≡ true
filled_alike xs ys same filled =
    sym (list_all-map (nat_lt 0) (length {A = ℕ}) xs) ∙ ap (list_all (nat_lt 0)) same ∙ list_all-map (nat_lt 0) (length {A = ℕ}) ys ∙ filled

-- arrays are filled at first
pub started_filled : (arrays : List Array) → are_lengths arrays ≡ true → are_filled (started arrays) ≡ true
started_filled [] ok = refl
started_filled (a ∷ arrays) ok =
    let parts = and_parts (is_length a.length) (are_lengths arrays) ok in
    let some = (and_parts (nat_le 1 a.length) (nat_le a.length 1048576) parts.0).0 in
    and_from (nat_lt 0 (length (replicate a.length a.init))) (are_filled (started arrays)) (ap (nat_lt 0) (length-replicate a.length a.init) ∙ some) (started_filled arrays parts.1)

-- as many arguments as their forms
count-forms : (parts : List Part) → parts_count (forms parts) ≡ length parts
count-forms [] = refl
count-forms (p ∷ parts) = ap suc (count-forms parts)

-- a call has as many arguments as its unit takes, and these are within the ranges
pub call_within : (r : Ranges) (unit : HashName) (parts : List Part) → part_within r (call unit (forms parts)) ≡ true → (length parts ≡ unit.args) × (parts_within r (forms parts) ≡ true)
call_within r unit parts ok =
    let both = and_parts (nat_eq (parts_count (forms parts)) unit.args) (parts_within r (forms parts)) ok in
    (sym (count-forms parts) ∙ eqb-true (parts_count (forms parts)) unit.args both.0, both.1)

-- what holds of all visits of a program holds of its guards and statements
mutual
  act_visits_within : (r : Ranges) (a : ActForm) → are_within r (act_visits a) ≡ act_within r a
  act_visits_within r (assign g p) = and-true (part_within r p && goal_within r g)
  act_visits_within r (branch p a b) =
      ap (λ (x : Bool). (part_within r p && true) && x) (list_all-append (visit_within r) (acts_visits a) (acts_visits b) ∙ ap (λ (x : Bool). x && are_within r (acts_visits b)) (acts_visits_within r a) ∙ ap (λ (x : Bool). acts_within r a && x) (acts_visits_within r b))
      ∙ ap (λ (x : Bool). x && (acts_within r a && acts_within r b)) (and-true (part_within r p))

  acts_visits_within : (r : Ranges) (acts : ActForms) → are_within r (acts_visits acts) ≡ acts_within r acts
  acts_visits_within r no_acts = refl
  acts_visits_within r (act a rest) =
      list_all-append (visit_within r) (act_visits a) (acts_visits rest) ∙ ap (λ (x : Bool). x && are_within r (acts_visits rest)) (act_visits_within r a) ∙ ap (λ (x : Bool). act_within r a && x) (acts_visits_within r rest)

guard_visits_within : (r : Ranges) (guard : Option PartForm) → are_within r (guard_visits guard) ≡ guard_within r guard
guard_visits_within r None = refl
guard_visits_within r (Some p) = and-true (part_within r p && true) ∙ and-true (part_within r p)

pub visits_within : (r : Ranges) (bodies : List BodyForm) → are_within r (bodies_visits bodies) ≡ bodies_within r bodies
visits_within r [] = refl
visits_within r (body ∷ bodies) =
    list_all-append (visit_within r) (guard_visits body.guard ++ acts_visits body.acts) (bodies_visits bodies)
    ∙ ap (λ (x : Bool). x && are_within r (bodies_visits bodies)) (list_all-append (visit_within r) (guard_visits body.guard) (acts_visits body.acts) ∙ ap (λ (x : Bool). x && are_within r (acts_visits body.acts)) (guard_visits_within r body.guard) ∙ ap (λ (x : Bool). guard_within r body.guard && x) (acts_visits_within r body.acts))
    ∙ ap (λ (x : Bool). (guard_within r body.guard && acts_within r body.acts) && x) (visits_within r bodies)

-- a body of a program is in range
pub body_within_at : (r : Ranges) (bodies : List (Option Part × List Act)) (k : ℕ) (b : Option Part × List Act) → k < length bodies → b ≡ slice_index_or bodies k b → bodies_within r (bodies_form bodies) ≡ true → (guard_within r (guard_form b.0) ≡ true) × (acts_within r (act_forms b.1) ≡ true)
body_within_at r [] k b inside at ok = absurd (omega arith)
body_within_at r (x ∷ bodies) zero b inside at ok =
    rw at (and_parts (guard_within r (guard_form x.0)) (acts_within r (act_forms x.1)) (and_parts (guard_within r (guard_form x.0) && acts_within r (act_forms x.1)) (bodies_within r (bodies_form bodies)) ok).0)
body_within_at r (x ∷ bodies) (suc k) b inside at ok =
    body_within_at r bodies k b (omega arith) at (and_parts (guard_within r (guard_form x.0) && acts_within r (act_forms x.1)) (bodies_within r (bodies_form bodies)) ok).1

-- what answers to a test pick is what passes it
pub picked_is : (test : BodyForm → Bool) (bodies : List BodyForm) (answers : List Bool) → take (length bodies) answers ≡ map test bodies → picked bodies answers ≡ filter test bodies
picked_is test [] answers e = refl
picked_is test (b ∷ bodies) [] e = absurd (cc)
picked_is test (b ∷ bodies) (a ∷ answers) e =
    ap (λ (bs : List BodyForm). if a then b ∷ bs else bs) (picked_is test bodies answers (ap (drop 1) e))
    ∙ ap (λ (x : Bool). if x then b ∷ filter test bodies else filter test bodies) (ap (λ (bs : List Bool). slice_index_or bs 0 false) e)

picked_step : (hash : Hash) (body : BodyForm) (bodies : List BodyForm) (answer : Bool) (answers : List Bool) (env : Env) → all_run hash (picked (body ∷ bodies) (answer ∷ answers)) env ≡ all_run hash (picked bodies answers) (if answer then all_acted hash body.acts env else env)
picked_step hash body bodies true answers env = refl
picked_step hash body bodies false answers env = refl

-- one body more has been passed by
pub picked_next : (hash : Hash) (bodies : List (Option Part × List Act)) (answers : List Bool) (k : ℕ) (b : Option Part × List Act) (env after : Env) → k < length bodies → k < length answers → b ≡ slice_index_or bodies k b → after ≡ (if slice_index_or answers k false then all_acted hash (act_forms b.1) env else env) →
    all_run hash (picked (bodies_form (drop (k + 1) bodies)) (drop (k + 1) answers)) after ≡ all_run hash (picked (bodies_form (drop k bodies)) (drop k answers)) env
picked_next hash bodies answers k b env after in_bodies in_answers at is_after =
    let this : drop k bodies ≡ b ∷ drop (suc k) bodies = drop-cons bodies k b in_bodies ∙ ap (λ (x : Option Part × List Act). x ∷ drop (suc k) bodies) (sym at) in
    rw add-one
    (ap (all_run hash (picked (bodies_form (drop (suc k) bodies)) (drop (suc k) answers))) is_after
    ∙ sym (picked_step hash (body_form b) (bodies_form (drop (suc k) bodies)) (slice_index_or answers k false) (drop (suc k) answers) env)
    ∙ sym (ap (λ (xs : List Bool). all_run hash (picked (bodies_form (b ∷ drop (suc k) bodies)) xs) env) (drop-cons answers k false in_answers))
    ∙ sym (ap (λ (bs : List (Option Part × List Act)). all_run hash (picked (bodies_form bs) (drop k answers)) env) this))

pub entering_alike : {p q : List ℕ} {s t : List (List ℕ)} → p ≡ q → s ≡ t → entering p s ≡ entering q t
entering_alike {p = p} {t = t} words arrays = ap (entering p) arrays ∙ ap (λ (x : List ℕ). entering x t) words

-- ranges over a packet and a state hang on the numbers of words and of arrays alone
pub ranges_alike : (p q : List ℕ) (s t : List (List ℕ)) → length p ≡ length q → map (length {A = ℕ}) s ≡ map (length {A = ℕ}) t → ranges_over p s ≡ ranges_over q t
ranges_alike p q s t words sizes =
    ap (λ (n : ℕ). resolved_ranges n (length s)) words ∙ ap (resolved_ranges (length q)) (sym (length-map s (length {A = ℕ})) ∙ ap length sizes ∙ length-map t (length {A = ℕ}))

-- a program is in range on a packet and a state of its own
pub program_within : (fields : List (List ℕ)) (declared : List Array) (bodies : List BodyForm) (packet : List ℕ) (state : List (List ℕ)) → are_within (resolved_ranges (length fields) (length declared)) (bodies_visits bodies) ≡ true → length packet ≡ length fields → IsStateOf declared state → bodies_within (ranges_over packet state) bodies ≡ true
program_within fields declared bodies packet state ok words sizes =
    ap (λ (n : ℕ). bodies_within (resolved_ranges n (length state)) bodies) words
    ∙ ap (λ (n : ℕ). bodies_within (resolved_ranges (length fields) n) bodies) (sym (length-map state (length {A = ℕ})) ∙ ap length sizes ∙ length-map declared (λ (array : Array). array.length))
    ∙ sym (visits_within (resolved_ranges (length fields) (length declared)) bodies)
    ∙ ok

-- an array has as many words as it is declared with
pub place_within : (declared : List Array) (state : List (List ℕ)) (a i : ℕ) → IsStateOf declared state → IsPlaceOf declared a i → i < length (array_of state a)
place_within [] state a i sizes place = absurd place
place_within (d ∷ declared) [] a i sizes place = absurd (cc)
place_within (d ∷ declared) (words ∷ state) zero i sizes place = rw (ap (λ (ns : List ℕ). slice_index_or ns 0 0) sizes) place
place_within (d ∷ declared) (words ∷ state) (suc a) i sizes place = place_within declared state a i (ap (drop 1) sizes) place

-- the words at first are words of the declared arrays
pub started_sizes : (declared : List Array) → IsStateOf declared (started declared)
started_sizes [] = refl
started_sizes (d ∷ declared) =
    ap (λ (n : ℕ). n ∷ map (length {A = ℕ}) (started declared)) (length-replicate d.length d.init) ∙ ap (λ (ns : List ℕ). d.length ∷ ns) (started_sizes declared)

-- after all guards are tested and the chosen bodies run, the packet and the state are those of one whole step
pub one_is : (hash : Hash) (bodies : List BodyForm) (answers : List Bool) (packet : List ℕ) (arrays : List (List ℕ)) → take (length bodies) answers ≡ map (is_chosen hash (entering packet arrays)) bodies →
    all_run hash (picked bodies answers) (entering packet arrays) ≡ all_chosen hash bodies (entering packet arrays)
one_is hash bodies answers packet arrays tested =
    ap (λ (bs : List BodyForm). all_run hash bs (entering packet arrays)) (picked_is (is_chosen hash (entering packet arrays)) bodies answers tested)

over_is : (old new : List ℕ) → length new ≡ length old → take (length old) (new ++ drop (length new) old) ≡ new
over_is old new same = ap (λ (n : ℕ). take n (new ++ drop (length new) old)) (sym same) ∙ take-append_seam new (drop (length new) old)

module _ (hash : Hash) (bodies : List BodyForm) (packet lent new : List ℕ) (arrays after : List (List ℕ)) (same : length new ≡ length lent) (is_lent : lent ≡ packet) (run : entering new after ≡ all_chosen hash bodies (entering lent arrays)) where
  -- the packet that is lent and written back
  pub packet_is : take (length packet) (new ++ drop (length new) packet) ≡ (one_packet hash bodies packet arrays).packet
  packet_is =
      over_is packet new (same ∙ ap length is_lent)
      ∙ ap (λ (env : Env). env.packet) run
      ∙ ap (λ (words : List ℕ). (all_chosen hash bodies (entering words arrays)).packet) is_lent

  pub arrays_are : after ≡ (one_packet hash bodies packet arrays).arrays
  arrays_are =
      ap (λ (env : Env). env.arrays) run ∙ ap (λ (words : List ℕ). (all_chosen hash bodies (entering words arrays)).arrays) is_lent

-- a chain is its first part, and then its operators with their operands
pub chain_is : (hash : Hash) (env : Env) (first : Box Part Global) (rest : List (BinOp × Part)) (head : Part) (word result : ℕ) → result ≡ folded hash (names_in env) word (op_forms rest) → word ≡ value_in hash env (form head) → head ≡ first.value → result ≡ value_in hash env (form (Chain first rest))
chain_is hash env first rest head word result is_result is_word is_head =
    is_result
    ∙ ap (λ (w : ℕ). folded hash (names_in env) w (op_forms rest)) (is_word ∙ ap (λ (p : Part). value_in hash env (form p)) is_head)
    ∙ ap (value_in hash env) (sym (form_chain first rest))
