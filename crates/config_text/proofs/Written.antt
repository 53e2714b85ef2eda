-- The bytes that are written are those of the lines.
use Rattle.std.proofs.Common.{◌≡◌, ℕ, true, zero, suc, ◌+◌, ◌≤◌, ◌<◌, Option, Some, None, List, [], ◌∷◌, ◌++◌, codes, length, map, take, get_or, refl, sym, ap, ◌∙◌, arith, append_assoc}
use Rattle.std.specs.Fmt.{decimal}
use Rattle.std.specs.List.{flat_map, list_all}
use Rattle.std.proofs.lemmas.Bool.{and_from}
use Rattle.std.proofs.lemmas.Grind.{flat_map-append}
use Rattle.std.proofs.lemmas.List.{append-nil, length-map, length-take-le, map-append, take_more}
use Rattle.std.proofs.lemmas.List.Folds.{flat_map-map, list_all-append}
use Rattle.dom_words.specs.Units.{letter_text}
use Rattle.atom_traits.specs.Form.{TreeForm, Ends, Asks}
use Rattle.banzai_config.specs.declared.parts.PartSlot.{PartSlot}
use Rattle.banzai_config.specs.declared.parts.StageParts.{StageParts}
use Rattle.banzai_config.specs.declared.target.Target.{Target}
use Rattle.banzai_config.specs.Parts.{AtomForm, PartsForm, StageForm, stage_form}
use Rattle.config_text.specs.Fronts.{ended, for_target, text_of}
use Rattle.config_text.specs.Lines.{Line, array, atom, atom_lines, containers, field, head, joined, line_text, lines_of, NamedParts, op, out, second_lines, slot, slot_lines, stage, stage_lines, stages_from, target, the_end, words_of}
use Rattle.config_text.specs.Words.{option_text, port_text, rel_text, source_text, tree_words}
use Rattle.config_text.specs.Writer.{atom_bytes, is_stage_written, line_bytes, op_bytes, second_bytes, slot_bytes, slots_bytes, spelled, stage_bytes, stages_bytes, tree_bytes, whole_bytes, with_commas}

-- commas between words are commas before all but the first
joined_commas : (w : List ℕ) (ws : List (List ℕ)) → joined (w ∷ ws) ≡ w ++ with_commas ws
joined_commas w [] = sym (append-nil w)
joined_commas w (v ∷ ws) = ap (λ l. w ++ 44 ∷ l) (joined_commas v ws)

joined_spelled : (ws : List (List ℕ)) → joined ws ≡ spelled ws
joined_spelled [] = refl
joined_spelled (w ∷ ws) = joined_commas w ws

abbrev all_bytes : List Line → List ℕ
all_bytes ls = flat_map line_bytes ls

ended_bytes : (ls : List Line) → ended (map line_text ls) ≡ all_bytes ls
ended_bytes [] = refl
ended_bytes (l ∷ ls) =
    ap (λ t. (t ++ 10 ∷ []) ++ ended (map line_text ls)) (joined_spelled (words_of l)) ∙ ap (λ t. line_bytes l ++ t) (ended_bytes ls)

-- the same bytes, grouped from the left
guard_group : (k r a b y n : List ℕ) → k ++ (r ++ (44 ∷ (a ++ (44 ∷ (b ++ (y ++ n)))))) ≡ k ++ r ++ 44 ∷ a ++ 44 ∷ b ++ y ++ n
guard_group k r a b y n = simp append_assoc

slot_group : (k d p o n t : List ℕ) → k ++ (d ++ (44 ∷ (p ++ (44 ∷ (o ++ (44 ∷ (n ++ t))))))) ≡ k ++ d ++ 44 ∷ p ++ 44 ∷ o ++ 44 ∷ n ++ t
slot_group k d p o n t = simp append_assoc

whole_group : (a b c d e f g h : List ℕ) → a ++ (b ++ (c ++ (d ++ (e ++ (f ++ (g ++ h)))))) ≡ a ++ b ++ c ++ d ++ e ++ f ++ g ++ h
whole_group a b c d e f g h = simp append_assoc

-- trees
tree_commas : (t : TreeForm) → with_commas (tree_words t) ≡ tree_bytes t
tree_commas (Ends l) = refl
tree_commas (Asks g y n) =
    ap (λ b. codes ",if," ++ (rel_text g.rel ++ (44 ∷ (source_text g.left ++ (44 ∷ (source_text g.right ++ b))))))
    (flat_map-append (λ (w : List ℕ). 44 ∷ w) (tree_words y) (tree_words n) ∙ ap (λ b. b ++ with_commas (tree_words n)) (tree_commas y) ∙ ap (λ b. tree_bytes y ++ b) (tree_commas n))
    ∙ guard_group (codes ",if,") (rel_text g.rel) (source_text g.left) (source_text g.right) (tree_bytes y) (tree_bytes n)

-- the lines of an atom
slot_spelled : (s : PartSlot) (t : TreeForm) → line_bytes (slot s t) ≡ slot_bytes s t
slot_spelled s t =
    ap (λ b. (codes "slot," ++ (decimal s.array ++ (44 ∷ (port_text s.index ++ (44 ∷ (option_text s.old ++ (44 ∷ (option_text s.new ++ b)))))))) ++ 10 ∷ []) (tree_commas t)
    ∙ ap (λ b. b ++ 10 ∷ []) (slot_group (codes "slot,") (decimal s.array) (port_text s.index) (option_text s.old) (option_text s.new) (tree_bytes t))

second_spelled : (ss : List PartSlot) (t : Option TreeForm) → all_bytes (second_lines ss t) ≡ second_bytes ss t
second_spelled [] t = refl
second_spelled (s ∷ ss) None = refl
second_spelled (s ∷ ss) (Some t) = append-nil (line_bytes (slot s t)) ∙ slot_spelled s t

slots_spelled : (ss : List PartSlot) (first : TreeForm) (second : Option TreeForm) → all_bytes (slot_lines ss (record { first = first; second = second })) ≡ slots_bytes ss first second
slots_spelled [] first second = refl
slots_spelled (s ∷ ss) first second =
    ap (λ b. b ++ all_bytes (second_lines ss second)) (slot_spelled s first) ∙ ap (λ b. slot_bytes s first ++ b) (second_spelled ss second)

atom_spelled : (a : AtomForm) → all_bytes (atom_lines a) ≡ atom_bytes a
atom_spelled a = ap (λ b. line_bytes (atom (length a.slots)) ++ b) (slots_spelled a.slots a.trees.first a.trees.second)

atoms_spelled : (as_ : List AtomForm) → all_bytes (flat_map atom_lines as_) ≡ flat_map atom_bytes as_
atoms_spelled [] = refl
atoms_spelled (a ∷ as_) =
    flat_map-append line_bytes (atom_lines a) (flat_map atom_lines as_) ∙ ap (λ b. b ++ all_bytes (flat_map atom_lines as_)) (atom_spelled a)
    ∙ ap (λ b. atom_bytes a ++ b) (atoms_spelled as_)

-- lines of one kind, and the lines after them
items : {A : Type 0} (f : A → Line) (xs : List A) (rest : List Line) (b : List ℕ) → all_bytes rest ≡ b → all_bytes (map f xs ++ rest) ≡ flat_map (λ x. line_bytes (f x)) xs ++ b
items f xs rest b e =
    flat_map-append line_bytes (map f xs) rest ∙ ap (λ l. l ++ all_bytes rest) (flat_map-map line_bytes f xs)
    ∙ ap (λ l. flat_map (λ x. line_bytes (f x)) xs ++ l) e

stage_spelled : (k : ℕ) (s : StageForm) → all_bytes (stage k ∷ stage_lines s) ≡ stage_bytes k s
stage_spelled k s =
    ap (λ b. line_bytes (stage k) ++ b) (items op s.stateless (flat_map atom_lines s.stateful) (flat_map atom_bytes s.stateful) (atoms_spelled s.stateful))
    ∙ sym (append_assoc (line_bytes (stage k)) (flat_map op_bytes s.stateless) (flat_map atom_bytes s.stateful))

stages_spelled : (k : ℕ) (ss : List StageForm) → all_bytes (stages_from k ss) ≡ stages_bytes k ss
stages_spelled k [] = refl
stages_spelled k (s ∷ ss) =
    flat_map-append line_bytes (stage k ∷ stage_lines s) (stages_from (k + 1) ss) ∙ ap (λ b. b ++ all_bytes (stages_from (k + 1) ss)) (stage_spelled k s)
    ∙ ap (λ b. stage_bytes k s ++ b) (stages_spelled (k + 1) ss)

whole_spelled : (n : NamedParts) → all_bytes (lines_of n) ≡ whole_bytes n
whole_spelled n =
    let p = n.parts in
    let names = flat_map (λ name. line_bytes (field name)) p.fields in
    let arrays = flat_map (λ a. line_bytes (array a)) p.arrays in
    let counted = line_bytes (containers p.containers) in
    let outs = flat_map (λ q. line_bytes (out q)) p.outputs in
    let last = map out p.outputs ++ the_end ∷ [] in
    let behind = containers p.containers ∷ (stages_from 1 p.stages ++ last) in
    let ending = items out p.outputs (the_end ∷ []) (line_bytes the_end) refl in
    let stages =
    flat_map-append line_bytes (stages_from 1 p.stages) last ∙ ap (λ b. b ++ all_bytes last) (stages_spelled 1 p.stages)
    ∙ ap (λ b. stages_bytes 1 p.stages ++ b) ending in
    let middle = items array p.arrays behind (counted ++ (stages_bytes 1 p.stages ++ (outs ++ line_bytes the_end))) (ap (λ b. counted ++ b) stages) in
    let top = items field p.fields (map array p.arrays ++ behind) (arrays ++ (counted ++ (stages_bytes 1 p.stages ++ (outs ++ line_bytes the_end)))) middle in
    ap (λ b. line_bytes (head p.version) ++ (line_bytes (target n.target) ++ b)) top
    ∙ whole_group (line_bytes (head p.version)) (line_bytes (target n.target)) names arrays counted (stages_bytes 1 p.stages) outs (line_bytes the_end)

-- what is written is the text
pub written : (t : Target) (p q : PartsForm) (old bytes : List ℕ) → p ≡ q → old ≡ [] → bytes ≡ old ++ whole_bytes (for_target t p) → bytes ≡ text_of t q
written t p q old bytes same none e =
    e ∙ ap (λ l. l ++ whole_bytes (for_target t p)) none ∙ ap (λ r. whole_bytes (for_target t r)) same
    ∙ sym (ended_bytes (lines_of (for_target t q)) ∙ whole_spelled (for_target t q))

-- one stage more
stages_more : (k : ℕ) (ss : List StageForm) (s : StageForm) → stages_bytes k (ss ++ s ∷ []) ≡ stages_bytes k ss ++ stage_bytes (k + length ss) s
stages_more k [] s = append-nil (stage_bytes k s) ∙ ap (λ n. stage_bytes n s) (plus_zero k)
  where
    plus_zero : (k : ℕ) → k ≡ k + 0
    plus_zero k = omega arith
stages_more k (t ∷ ss) s =
    ap (λ l. stage_bytes k t ++ l) (stages_more (k + 1) ss s ∙ ap (λ n. stages_bytes (k + 1) ss ++ stage_bytes n s) (plus_suc k (length ss)))
    ∙ sym (append_assoc (stage_bytes k t) (stages_bytes (k + 1) ss) (stage_bytes (k + suc (length ss)) s))
  where
    plus_suc : (k n : ℕ) → k + 1 + n ≡ k + suc n
    plus_suc k n = omega arith

front_length : (xs : List StageParts) (i : ℕ) → i < length xs → 1 + length (map stage_form (take i xs)) ≡ i + 1
front_length xs i h = let all = length-map (take i xs) stage_form in let first = length-take-le i xs (omega arith) in omega arith

pub stage_written : (xs : List StageParts) (i : ℕ) (x : StageParts) (start now new : List ℕ) → i < length xs → x ≡ get_or xs i x → now ≡ start ++ stages_bytes 1 (map stage_form (take i xs)) → new ≡ now ++ stage_bytes (i + 1) (stage_form x) → new ≡ start ++ stages_bytes 1 (map stage_form (take (i + 1) xs))
stage_written xs i x start now new h item e n =
    let before = map stage_form (take i xs) in
    n ∙ ap (λ l. l ++ stage_bytes (i + 1) (stage_form x)) e
    ∙ append_assoc start (stages_bytes 1 before) (stage_bytes (i + 1) (stage_form x))
    ∙ ap (λ l. start ++ l)
    (ap (λ k. stages_bytes 1 before ++ stage_bytes k (stage_form x)) (sym (front_length xs i h)) ∙ sym (stages_more 1 before (stage_form x))
    ∙ ap (stages_bytes 1) (sym (map-append stage_form (take i xs) (x ∷ [])) ∙ ap (map stage_form) (ap (λ y. take i xs ++ y ∷ []) item ∙ sym (take_more xs i x h))))

pub stage_judged : (xs : List StageParts) (i : ℕ) (x : StageParts) → i < length xs → x ≡ get_or xs i x → list_all is_stage_written (map stage_form (take i xs)) ≡ true → is_stage_written (stage_form x) ≡ true → list_all is_stage_written (map stage_form (take (i + 1) xs)) ≡ true
stage_judged xs i x h item before here =
    ap (λ l. list_all is_stage_written (map stage_form l)) (take_more xs i x h ∙ ap (λ y. take i xs ++ y ∷ []) (sym item))
    ∙ ap (list_all is_stage_written) (map-append stage_form (take i xs) (x ∷ []))
    ∙ list_all-append is_stage_written (map stage_form (take i xs)) (stage_form x ∷ [])
    ∙ and_from _ _ before (and_from _ _ here refl)

-- a letter that is there
pub letter_some : (n : ℕ) → 1 ≤ n → letter_text n ≡ (96 + n) ∷ []
letter_some zero h = absurd (omega arith)
letter_some (suc n) h = ap (λ k. k ∷ []) (same n)
  where
    same : (n : ℕ) → 97 + n ≡ 96 + suc n
    same n = omega arith
