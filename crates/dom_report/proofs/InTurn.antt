-- A serial run, packet by packet, and its report, line by line.
use Rattle.std.proofs.Common.{◌≡◌, ℕ, zero, suc, ◌+◌, ◌<◌, List, [], ◌∷◌, ◌++◌, length, map, take, drop, get_or, refl, sym, ap, ◌∙◌, subst, append_assoc, append-nil, arith, Option, Some, None, Result, codes, IsSomeAnd, slice_get}
use Rattle.std.proofs.Math.Seq.{take-length}
use Rattle.std.proofs.lemmas.List.{length-map, map-append, take-append-drop, take_more, length-take}
use Rattle.dom_io.specs.Held.{IsPart, Puts, appended}
use Rattle.dom_io.specs.declared.sink.SinkFault.{SinkFault}
use Rattle.dom_words.specs.State.{Hash, IsStateOf, array_of, started}
use Rattle.dom_words.specs.declared.array.Array.{Array}
use Rattle.trace_text.specs.Lines.{done_line, head_line, name_at, packet_line}
use Rattle.dom_ast.specs.Meaning.{one_packet, serial_arrays, serial_packets}
use Rattle.dom_ast.specs.Resolved.{BodyForm, CheckedForm}
use Rattle.dom_ast.specs.Serial.{IsPlaceOf}
use Rattle.trace_text.specs.Lines.{joined}
use Rattle.dom_report.specs.SerialReport.{array_lines, end_lines, numbered, serial_report, state_lines, word_lines}
use Rattle.dom_report.specs.Turns.{RanInTurn, lines_in_turn}
use Rattle.dom_report.proofs.Parts.{part_after, part_before, put_then}
use Rattle.dom_report.proofs.Reports.{puts_after}

pub joined-append : (a b : List (List ℕ)) → joined (a ++ b) ≡ joined a ++ joined b
joined-append [] b = refl
joined-append (line ∷ a) b = ap (λ l. line ++ l) (joined-append a b) ∙ sym (append_assoc line (joined a) (joined b))

-- nothing put
put_none : (h : Option (List ℕ)) → h ≡ appended h []
put_none None = refl
put_none (Some h) = ap Some (sym (append-nil h))

-- The packets.

numbered-append : (n : ℕ) (xs ys : List (List ℕ)) → numbered n (xs ++ ys) ≡ numbered n xs ++ numbered (n + length xs) ys
numbered-append n [] ys = ap (λ m. numbered m ys) (omega arith)
numbered-append n (x ∷ xs) ys =
    let later : n + 1 + length xs ≡ n + suc (length xs) = omega arith in
    ap (λ l. packet_line n x ∷ l) (numbered-append (n + 1) xs ys ∙ ap (λ m. numbered (n + 1) xs ++ numbered m ys) later)

module _ (hash : Hash) (bodies : List BodyForm) where
  arrays-append : (arrays : List (List ℕ)) (xs ys : List (List ℕ)) → serial_arrays hash bodies arrays (xs ++ ys) ≡ serial_arrays hash bodies (serial_arrays hash bodies arrays xs) ys
  arrays-append arrays [] ys = refl
  arrays-append arrays (x ∷ xs) ys = arrays-append (one_packet hash bodies x arrays).arrays xs ys

  packets-append : (arrays : List (List ℕ)) (xs ys : List (List ℕ)) → serial_packets hash bodies arrays (xs ++ ys) ≡ serial_packets hash bodies arrays xs ++ serial_packets hash bodies (serial_arrays hash bodies arrays xs) ys
  packets-append arrays [] ys = refl
  packets-append arrays (x ∷ xs) ys = ap (λ l. (one_packet hash bodies x arrays).packet ∷ l) (packets-append (one_packet hash bodies x arrays).arrays xs ys)

  length-packets : (arrays : List (List ℕ)) (xs : List (List ℕ)) → length (serial_packets hash bodies arrays xs) ≡ length xs
  length-packets arrays [] = refl
  length-packets arrays (x ∷ xs) = ap suc (length-packets (one_packet hash bodies x arrays).arrays xs)

  lines-append : (arrays : List (List ℕ)) (n : ℕ) (xs ys : List (List ℕ)) → lines_in_turn hash bodies arrays n (xs ++ ys) ≡ lines_in_turn hash bodies arrays n xs ++ lines_in_turn hash bodies (serial_arrays hash bodies arrays xs) (n + length xs) ys
  lines-append arrays n xs ys =
      ap (λ l. joined (numbered n l)) (packets-append arrays xs ys)
      ∙ ap joined (numbered-append n (serial_packets hash bodies arrays xs) (serial_packets hash bodies (serial_arrays hash bodies arrays xs) ys))
      ∙ joined-append (numbered n (serial_packets hash bodies arrays xs)) (numbered (n + length (serial_packets hash bodies arrays xs)) (serial_packets hash bodies (serial_arrays hash bodies arrays xs) ys))
      ∙ ap (λ m. lines_in_turn hash bodies arrays n xs ++ lines_in_turn hash bodies (serial_arrays hash bodies arrays xs) m ys)
      (ap (λ m. n + m) (length-packets arrays xs))

  -- one packet
  one_line : (arrays : List (List ℕ)) (n : ℕ) (x : List ℕ) → lines_in_turn hash bodies arrays n (x ∷ []) ≡ packet_line n (one_packet hash bodies x arrays).packet
  one_line arrays n x = append-nil (packet_line n (one_packet hash bodies x arrays).packet)

  module _ (a0 a1 : List (List ℕ)) (h0 h1 h2 : Option (List ℕ)) (ps : List (ℕ × List ℕ)) (k number : ℕ) (words out : List ℕ) (d : ℕ × List ℕ) where
    front : k < length ps → map (λ p. p.1) (take (k + 1) ps) ≡ map (λ p. p.1) (take k ps) ++ (get_or ps k d).1 ∷ []
    front inside = ap (map (λ p. p.1)) (take_more ps k d inside) ∙ map-append (λ (p : ℕ × List ℕ). p.1) (take k ps) (get_or ps k d ∷ [])

    count : k < length ps → number ≡ k + 1 → 1 + length (map (λ p. p.1) (take k ps)) ≡ number
    count inside is = omega (arith, is, inside, length-map (take k ps) (λ (p : ℕ × List ℕ). p.1), length-take k ps)

    -- the lines up to packet k, and its own
    lines_front : k < length ps → number ≡ k + 1 → words ≡ (get_or ps k d).1 → a1 ≡ serial_arrays hash bodies a0 (map (λ p. p.1) (take k ps)) → out ≡ (one_packet hash bodies words a1).packet
        → lines_in_turn hash bodies a0 1 (map (λ p. p.1) (take (k + 1) ps)) ≡ lines_in_turn hash bodies a0 1 (map (λ p. p.1) (take k ps)) ++ packet_line number out
    lines_front inside is words_are arrays_are out_is =
        let before = map (λ (p : ℕ × List ℕ). p.1) (take k ps) in
        ap (lines_in_turn hash bodies a0 1) (front inside)
        ∙ lines-append a0 1 before ((get_or ps k d).1 ∷ [])
        ∙ ap (λ l. lines_in_turn hash bodies a0 1 before ++ l)
        (ap (λ m. lines_in_turn hash bodies (serial_arrays hash bodies a0 before) m ((get_or ps k d).1 ∷ [])) (count inside is)
        ∙ one_line (serial_arrays hash bodies a0 before) number (get_or ps k d).1
        ∙ ap (packet_line number) (ap (λ a. (one_packet hash bodies (get_or ps k d).1 a).packet) (sym arrays_are) ∙ ap (λ w. (one_packet hash bodies w a1).packet) (sym words_are) ∙ sym out_is))

    -- one packet more
    pub turn_more : (a2 : List (List ℕ)) → k < length ps → number ≡ k + 1 → words ≡ (get_or ps k d).1 → out ≡ (one_packet hash bodies words a1).packet → a2 ≡ (one_packet hash bodies words a1).arrays
        → h2 ≡ appended h1 (packet_line number out) → RanInTurn hash bodies a0 a1 h0 h1 1 (map (λ p. p.1) (take k ps)) → RanInTurn hash bodies a0 a2 h0 h2 1 (map (λ p. p.1) (take (k + 1) ps))
    turn_more a2 inside is words_are out_is arrays_are put ran =
        let before = map (λ (p : ℕ × List ℕ). p.1) (take k ps) in
        record {
          arrays_are =
              arrays_are ∙ ap (λ w. (one_packet hash bodies w a1).arrays) words_are ∙ ap (λ a. (one_packet hash bodies (get_or ps k d).1 a).arrays) ran.arrays_are
              ∙ sym (arrays-append a0 before ((get_or ps k d).1 ∷ [])) ∙ ap (serial_arrays hash bodies a0) (sym (front inside));
          held_is =
              put_then h0 h1 h2 (lines_in_turn hash bodies a0 1 before) (packet_line number out) ran.held_is put
              ∙ ap (appended h0) (sym (lines_front inside is words_are ran.arrays_are out_is));
        }

    -- a stop at packet k
    pub turn_stop : k < length ps → number ≡ k + 1 → words ≡ (get_or ps k d).1 → out ≡ (one_packet hash bodies words a1).packet
        → IsPart h1 h2 (packet_line number out) → RanInTurn hash bodies a0 a1 h0 h1 1 (map (λ p. p.1) (take k ps)) → IsPart h0 h2 (lines_in_turn hash bodies a0 1 (map (λ p. p.1) ps))
    turn_stop inside is words_are out_is part ran =
        let before = map (λ (p : ℕ × List ℕ). p.1) (take k ps) in
        let upto = map (λ (p : ℕ × List ℕ). p.1) (take (k + 1) ps) in
        let behind = map (λ (p : ℕ × List ℕ). p.1) (drop (k + 1) ps) in
        let here : IsPart h0 h2 (lines_in_turn hash bodies a0 1 upto) =
        subst (λ (l : List ℕ). IsPart h0 h2 l) (sym (lines_front inside is words_are ran.arrays_are out_is))
        (part_after h0 h1 h2 (lines_in_turn hash bodies a0 1 before) (packet_line number out) ran.held_is part) in
        let all : upto ++ behind ≡ map (λ p. p.1) ps = sym (map-append (λ (p : ℕ × List ℕ). p.1) (take (k + 1) ps) (drop (k + 1) ps)) ∙ ap (map (λ p. p.1)) (take-append-drop (k + 1) ps) in
        subst (λ (l : List ℕ). IsPart h0 h2 l) (sym (lines-append a0 1 upto behind) ∙ ap (lines_in_turn hash bodies a0 1) all)
        (part_before h0 h2 (lines_in_turn hash bodies a0 1 upto) (lines_in_turn hash bodies (serial_arrays hash bodies a0 upto) (1 + length upto) behind) here)

  -- none, and all
  pub turn_none : (arrays : List (List ℕ)) (h : Option (List ℕ)) (n : ℕ) → RanInTurn hash bodies arrays arrays h h n []
  turn_none arrays h n = record { arrays_are = refl; held_is = put_none h }

  pub turn_all : (a0 a1 : List (List ℕ)) (h0 h1 : Option (List ℕ)) (ps : List (ℕ × List ℕ)) (k : ℕ) → k ≡ length ps → RanInTurn hash bodies a0 a1 h0 h1 1 (map (λ p. p.1) (take k ps))
      → RanInTurn hash bodies a0 a1 h0 h1 1 (map (λ p. p.1) ps)
  turn_all a0 a1 h0 h1 ps k all ran =
      let whole : take k ps ≡ ps = ap (λ n. take n ps) all ∙ take-length ps in subst (λ (l : List (ℕ × List ℕ)). RanInTurn hash bodies a0 a1 h0 h1 1 (map (λ p. p.1) l)) whole ran

-- The words of an array.

array_lines-append : (name : List ℕ) (i : ℕ) (xs ys : List ℕ) → array_lines name i (xs ++ ys) ≡ array_lines name i xs ++ array_lines name (i + length xs) ys
array_lines-append name i [] ys = ap (λ n. array_lines name n ys) (omega arith)
array_lines-append name i (x ∷ xs) ys =
    let later : i + 1 + length xs ≡ i + suc (length xs) = omega arith in
    ap (λ l. word_lines name i x ++ l) (array_lines-append name (i + 1) xs ys ∙ ap (λ n. array_lines name (i + 1) xs ++ array_lines name n ys) later)
    ∙ sym (append_assoc (word_lines name i x) (array_lines name (i + 1) xs) (array_lines name (i + length (x ∷ xs)) ys))

module _ (name words : List ℕ) (k word : ℕ) (h0 h1 h2 : Option (List ℕ)) (inside : k < length words) (word_is : word ≡ get_or words k 0) where
  abbrev before : List ℕ
  before = joined (array_lines name 0 (take k words))

  words_front : joined (array_lines name 0 (take (k + 1) words)) ≡ joined (array_lines name 0 (take k words)) ++ joined (word_lines name k word)
  words_front =
      let short : 0 + length (take k words) ≡ k = omega (arith, inside, length-take k words) in
      ap (λ l. joined (array_lines name 0 l)) (take_more words k 0 inside ∙ ap (λ w. take k words ++ w ∷ []) (sym word_is))
      ∙ ap joined (array_lines-append name 0 (take k words) (word ∷ []))
      ∙ joined-append (array_lines name 0 (take k words)) (array_lines name (0 + length (take k words)) (word ∷ []))
      ∙ ap (λ n. before ++ joined (array_lines name n (word ∷ []))) short
      ∙ ap (λ l. before ++ joined l) (append-nil (word_lines name k word))

  pub word_more : h1 ≡ appended h0 (joined (array_lines name 0 (take k words))) → h2 ≡ appended h1 (joined (word_lines name k word)) → h2 ≡ appended h0 (joined (array_lines name 0 (take (k + 1) words)))
  word_more first put = put_then h0 h1 h2 before (joined (word_lines name k word)) first put ∙ ap (appended h0) (sym words_front)

  pub word_stop : h1 ≡ appended h0 (joined (array_lines name 0 (take k words))) → IsPart h1 h2 (joined (word_lines name k word)) → IsPart h0 h2 (joined (array_lines name 0 words))
  word_stop first part =
      let here : IsPart h0 h2 (joined (array_lines name 0 (take (k + 1) words))) =
      subst (λ (l : List ℕ). IsPart h0 h2 l) (sym words_front) (part_after h0 h1 h2 before (joined (word_lines name k word)) first part) in
      let behind = array_lines name (0 + length (take (k + 1) words)) (drop (k + 1) words) in
      let all : joined (array_lines name 0 (take (k + 1) words)) ++ joined behind ≡ joined (array_lines name 0 words) =
      sym (joined-append (array_lines name 0 (take (k + 1) words)) behind) ∙ ap joined (sym (array_lines-append name 0 (take (k + 1) words) (drop (k + 1) words)) ∙ ap (array_lines name 0) (take-append-drop (k + 1) words)) in
      subst (λ (l : List ℕ). IsPart h0 h2 l) all (part_before h0 h2 (joined (array_lines name 0 (take (k + 1) words))) (joined behind) here)

pub words_all : (name words : List ℕ) (k : ℕ) (h0 h1 : Option (List ℕ)) → k ≡ length words → h1 ≡ appended h0 (joined (array_lines name 0 (take k words))) → h1 ≡ appended h0 (joined (array_lines name 0 words))
words_all name words k h0 h1 all put = put ∙ ap (λ l. appended h0 (joined (array_lines name 0 l))) (ap (λ n. take n words) all ∙ take-length words)

-- The arrays.

state_next : (names arrays : List (List ℕ)) (a : ℕ) → a < length names → a < length arrays
    → state_lines (take (suc a) names) (take (suc a) arrays) ≡ state_lines (take a names) (take a arrays) ++ array_lines (name_at names a) 0 (array_of arrays a)
state_next [] arrays a inside within = absurd (omega arith)
state_next (name ∷ names) [] a inside within = absurd (omega arith)
state_next (name ∷ names) (words ∷ arrays) zero inside within = append-nil (array_lines name 0 words)
state_next (name ∷ names) (words ∷ arrays) (suc a) inside within =
    ap (λ l. array_lines name 0 words ++ l) (state_next names arrays a (omega arith) (omega arith))
    ∙ sym (append_assoc (array_lines name 0 words) (state_lines (take a names) (take a arrays)) (array_lines (name_at names a) 0 (array_of arrays a)))

state_front : (names arrays : List (List ℕ)) (a : ℕ) → a < length names → a < length arrays
    → state_lines (take (a + 1) names) (take (a + 1) arrays) ≡ state_lines (take a names) (take a arrays) ++ array_lines (name_at names a) 0 (array_of arrays a)
state_front names arrays a inside within = let e : a + 1 ≡ suc a = omega arith in ap (λ n. state_lines (take n names) (take n arrays)) e ∙ state_next names arrays a inside within

state_rest : (names arrays : List (List ℕ)) (a : ℕ) → (rest : List (List ℕ)) × (state_lines names arrays ≡ state_lines (take a names) (take a arrays) ++ rest)
state_rest names arrays zero = (state_lines names arrays, refl)
state_rest [] arrays (suc a) = ([], refl)
state_rest (name ∷ names) [] (suc a) = ([], refl)
state_rest (name ∷ names) (words ∷ arrays) (suc a) =
    let r = state_rest names arrays a in
    (r.0, ap (λ l. array_lines name 0 words ++ l) r.1 ∙ sym (append_assoc (array_lines name 0 words) (state_lines (take a names) (take a arrays)) r.0))

module _ (names arrays : List (List ℕ)) (a : ℕ) (h0 h1 h2 : Option (List ℕ)) (inside : a < length names) (within : a < length arrays) where
  arrays_front : joined (state_lines (take (a + 1) names) (take (a + 1) arrays)) ≡ joined (state_lines (take a names) (take a arrays)) ++ joined (array_lines (name_at names a) 0 (array_of arrays a))
  arrays_front = ap joined (state_front names arrays a inside within) ∙ joined-append (state_lines (take a names) (take a arrays)) (array_lines (name_at names a) 0 (array_of arrays a))

  pub array_more : h1 ≡ appended h0 (joined (state_lines (take a names) (take a arrays))) → h2 ≡ appended h1 (joined (array_lines (name_at names a) 0 (array_of arrays a)))
      → h2 ≡ appended h0 (joined (state_lines (take (a + 1) names) (take (a + 1) arrays)))
  array_more first put = put_then h0 h1 h2 (joined (state_lines (take a names) (take a arrays))) (joined (array_lines (name_at names a) 0 (array_of arrays a))) first put ∙ ap (appended h0) (sym arrays_front)

  pub array_stop : h1 ≡ appended h0 (joined (state_lines (take a names) (take a arrays))) → IsPart h1 h2 (joined (array_lines (name_at names a) 0 (array_of arrays a))) → IsPart h0 h2 (joined (state_lines names arrays))
  array_stop first part =
      let here : IsPart h0 h2 (joined (state_lines (take (a + 1) names) (take (a + 1) arrays))) =
      subst (λ (l : List ℕ). IsPart h0 h2 l) (sym arrays_front)
      (part_after h0 h1 h2 (joined (state_lines (take a names) (take a arrays))) (joined (array_lines (name_at names a) 0 (array_of arrays a))) first part) in
      let rest = state_rest names arrays (a + 1) in
      subst (λ (l : List ℕ). IsPart h0 h2 l) (sym (ap joined rest.1 ∙ joined-append (state_lines (take (a + 1) names) (take (a + 1) arrays)) rest.0))
      (part_before h0 h2 (joined (state_lines (take (a + 1) names) (take (a + 1) arrays))) (joined rest.0) here)

pub arrays_all : (names arrays : List (List ℕ)) (a : ℕ) (h0 h1 : Option (List ℕ)) → a ≡ length names → a ≡ length arrays → h1 ≡ appended h0 (joined (state_lines (take a names) (take a arrays)))
    → h1 ≡ appended h0 (joined (state_lines names arrays))
arrays_all names arrays a h0 h1 all both put =
    put ∙ ap (λ l. appended h0 (joined (state_lines l (take a arrays)))) (ap (λ n. take n names) all ∙ take-length names)
    ∙ ap (λ l. appended h0 (joined (state_lines names l))) (ap (λ n. take n arrays) both ∙ take-length arrays)

-- there are as many arrays as declared, each with its number of words
pub same_count : (declared : List Array) (state : List (List ℕ)) → IsStateOf declared state → length state ≡ length declared
same_count declared state is = sym (length-map state length) ∙ ap length is ∙ length-map declared (λ array. array.length)

-- The place of a word.

sized : (declared : List Array) (state : List (List ℕ)) (a : ℕ) (d : Array) → map (length {A = ℕ}) state ≡ map (λ array. array.length) declared → slice_get declared a ≡ Some d
    → length (array_of state a) ≡ d.length
sized [] state a d is at = absurd (cc)
sized (x ∷ declared) [] a d is at = absurd (cc)
sized (x ∷ declared) (words ∷ state) zero d is at = let here : x ≡ d = cc in let same : length words ≡ x.length = cc in same ∙ ap (λ (y : Array). y.length) here
sized (x ∷ declared) (words ∷ state) (suc a) d is at = sized declared state a d (let rest : map (length {A = ℕ}) state ≡ map (λ array. array.length) declared = cc in rest) at

pub array_size : (declared : List Array) (state : List (List ℕ)) (a : ℕ) (d : Array) → IsStateOf declared state → slice_get declared a ≡ Some d → length (array_of state a) ≡ d.length
array_size declared state a d is at = sized declared state a d is at

pub is_place : (declared : List Array) (a index : ℕ) (d : Array) → slice_get declared a ≡ Some d → index < d.length → IsPlaceOf declared a index
is_place declared a index d at inside = subst (λ (o : Option Array). IsSomeAnd o (λ array. index < array.length)) (sym at) inside

-- The report.

module _ (hash : Hash) (c : CheckedForm) (packets names fields : List (List ℕ)) (a0 a1 : List (List ℕ)) where
  abbrev heading : List ℕ
  heading = head_line (codes "packet") fields

  abbrev turns : List ℕ
  turns = lines_in_turn hash c.bodies a0 1 packets

  abbrev state : List ℕ
  state = joined (state_lines names a1)

  end_is : (count : ℕ) → joined (end_lines names a1 count) ≡ state ++ done_line count None
  end_is count = joined-append (state_lines names a1) (done_line count None ∷ []) ∙ ap (λ l. state ++ l) (append-nil (done_line count None))

  whole_is : fields ≡ c.fields → names ≡ map (λ array. array.name) c.arrays → a0 ≡ started c.arrays → a1 ≡ serial_arrays hash c.bodies a0 packets
      → heading ++ (turns ++ (state ++ done_line (length packets) None)) ≡ serial_report hash c packets
  whole_is fields_are names_are start ran =
      let lines : List (List ℕ) = numbered 1 (serial_packets hash c.bodies a0 packets) in
      ap (λ l. heading ++ (turns ++ l)) (sym (end_is (length packets)))
      ∙ ap (λ l. heading ++ l) (sym (joined-append lines (end_lines names a1 (length packets))))
      ∙ ap (λ f. joined (head_line (codes "packet") f ∷ (lines ++ end_lines names a1 (length packets)))) fields_are
      ∙ ap (λ n. joined (head_line (codes "packet") c.fields ∷ (lines ++ end_lines n a1 (length packets)))) names_are
      ∙ ap (λ a. joined (head_line (codes "packet") c.fields ∷ (lines ++ end_lines (map (λ array. array.name) c.arrays) a (length packets)))) ran
      ∙ ap (λ a. joined (head_line (codes "packet") c.fields ∷ (numbered 1 (serial_packets hash c.bodies a packets) ++ end_lines (map (λ array. array.name) c.arrays) (serial_arrays hash c.bodies a packets) (length packets)))) start

  -- a report that is put whole, and one that stops in its end
  pub report_put : (h0 h1 h2 h3 h4 : Option (List ℕ)) (result : Result (Unit {0}) SinkFault) (count : ℕ)
      → fields ≡ c.fields → names ≡ map (λ array. array.name) c.arrays → a0 ≡ started c.arrays → count ≡ length packets
      → h1 ≡ appended h0 heading → RanInTurn hash c.bodies a0 a1 h1 h2 1 packets → h3 ≡ appended h2 state → Puts h3 h4 (done_line count None) result
      → Puts h0 h4 (serial_report hash c packets) result
  report_put h0 h1 h2 h3 h4 result count fields_are names_are start count_is head ran kept end =
      let last : Puts h3 h4 (done_line (length packets) None) result = subst (λ (n : ℕ). Puts h3 h4 (done_line n None) result) count_is end in
      subst (λ (l : List ℕ). Puts h0 h4 l result) (whole_is fields_are names_are start ran.arrays_are)
      (puts_after result h0 h1 h4 heading (turns ++ (state ++ done_line (length packets) None)) head
      (puts_after result h1 h2 h4 turns (state ++ done_line (length packets) None) ran.held_is
      (puts_after result h2 h3 h4 state (done_line (length packets) None) kept last)))

  -- one that stops in its heading, among the packets, or among the state words
  pub heading_stop : (h0 h1 : Option (List ℕ)) → fields ≡ c.fields → names ≡ map (λ array. array.name) c.arrays → a0 ≡ started c.arrays → a1 ≡ serial_arrays hash c.bodies a0 packets
      → IsPart h0 h1 heading → IsPart h0 h1 (serial_report hash c packets)
  heading_stop h0 h1 fields_are names_are start ran part =
      subst (λ (l : List ℕ). IsPart h0 h1 l) (whole_is fields_are names_are start ran) (part_before h0 h1 heading (turns ++ (state ++ done_line (length packets) None)) part)

  pub turns_stop : (h0 h1 h2 : Option (List ℕ)) → fields ≡ c.fields → names ≡ map (λ array. array.name) c.arrays → a0 ≡ started c.arrays → a1 ≡ serial_arrays hash c.bodies a0 packets
      → h1 ≡ appended h0 heading → IsPart h1 h2 turns → IsPart h0 h2 (serial_report hash c packets)
  turns_stop h0 h1 h2 fields_are names_are start ran head part =
      subst (λ (l : List ℕ). IsPart h0 h2 l) (whole_is fields_are names_are start ran)
      (part_after h0 h1 h2 heading (turns ++ (state ++ done_line (length packets) None)) head (part_before h1 h2 turns (state ++ done_line (length packets) None) part))

  pub state_stop : (h0 h1 h2 h3 : Option (List ℕ)) → fields ≡ c.fields → names ≡ map (λ array. array.name) c.arrays → a0 ≡ started c.arrays
      → h1 ≡ appended h0 heading → RanInTurn hash c.bodies a0 a1 h1 h2 1 packets → IsPart h2 h3 state → IsPart h0 h3 (serial_report hash c packets)
  state_stop h0 h1 h2 h3 fields_are names_are start head ran part =
      subst (λ (l : List ℕ). IsPart h0 h3 l) (whole_is fields_are names_are start ran.arrays_are)
      (part_after h0 h1 h3 heading (turns ++ (state ++ done_line (length packets) None)) head
      (part_after h1 h2 h3 turns (state ++ done_line (length packets) None) ran.held_is (part_before h2 h3 state (done_line (length packets) None) part)))
