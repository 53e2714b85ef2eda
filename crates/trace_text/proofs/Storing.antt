-- Packets in stored rows.
use Rattle.std.proofs.Common.{◌≡◌, ℕ, zero, suc, ◌+◌, ◌*◌, ◌<◌, ◌≤◌, rules, true, List, [], ◌∷◌, ◌++◌, length, map, take, drop, get_or, Option, Some, None, refl, sym, ◌∙◌, ap, arith, add-one, append_assoc}
use Rattle.std.specs.Prelude.{◌==◌, All, IfSome, unwrap_or}
use Rattle.std.proofs.lemmas.List.{drop-append-le, drop-drop, length-append, length-drop, length-take-le, take-append-le, take_more}
use Rattle.std.proofs.lemmas.List.{length-map}
use Rattle.std.proofs.lemmas.List.Elements.{All-map}
use Rattle.std.proofs.lemmas.List.Quantifiers.{position-Some}
use Rattle.std.proofs.lemmas.List.Sums.{sum_by-append}
use Rattle.std.proofs.Math.Seq.{take-append_seam, take-length}
use Rattle.dom_words.specs.Names.{index_of, is_same}
use Rattle.dom_words.specs.Number.{word_of_text}
use Rattle.dom_words.specs.Packet.{over}
use Rattle.trace_text.specs.Stored.{numbers_of, stored_packet, stored_packets, word_at}
use Rattle.trace_text.specs.Trace.{cycles_of, fields_refusal, gap_at, gap_of, packet_of, rows_refusal, word_in}

-- row k ends within n rows
pub row-ends : (k n w : ℕ) → k < n → k * w + w ≤ n * w
row-ends k zero w h = absurd (omega arith)
row-ends zero (suc n) w h = omega arith
row-ends (suc k) (suc n) w h = let less : k < n = omega arith in let rest = row-ends k n w less in omega arith

pub length-stored : (w : ℕ) (columns : List (Option ℕ)) (n : ℕ) (cells : List ℕ) → length (stored_packets w columns n cells) ≡ n
length-stored w columns zero cells = refl
length-stored w columns (suc n) cells = ap suc (length-stored w columns n (drop w cells))

-- packet k is that of row k
pub stored-at : (w : ℕ) (columns : List (Option ℕ)) (n : ℕ) (cells : List ℕ) (k : ℕ) (d : ℕ × List ℕ) → k < n
    → get_or (stored_packets w columns n cells) k d ≡ stored_packet columns (take w (drop (k * w) cells))
stored-at w columns zero cells k d h = absurd (omega arith)
stored-at w columns (suc n) cells zero d h =
    let none : 0 * w ≡ 0 = omega arith in
    ap (λ (i : ℕ). stored_packet columns (take w (drop i cells))) (sym none)
stored-at w columns (suc n) cells (suc k) d h =
    let next : w + k * w ≡ suc k * w = omega arith in
    stored-at w columns n (drop w cells) k d (omega arith)
    ∙ ap (λ (l : List ℕ). stored_packet columns (take w l)) (drop-drop (k * w) w cells)
    ∙ ap (λ (i : ℕ). stored_packet columns (take w (drop i cells))) next

-- a row more is a packet more
pub stored-more : (w : ℕ) (columns : List (Option ℕ)) (n : ℕ) (cells row : List ℕ) → length cells ≡ n * w → length row ≡ w
    → stored_packets w columns (suc n) (cells ++ row) ≡ stored_packets w columns n cells ++ stored_packet columns row ∷ []
stored-more w columns zero [] row h k =
    let all : take w row ≡ row = rw (← k) (take-length row) in
    ap (λ (l : List ℕ). stored_packet columns l ∷ []) all
stored-more w columns zero (x ∷ cells) row h k = absurd (omega arith)
stored-more w columns (suc n) cells row h k =
    let room : w ≤ length cells = omega arith in
    let left : length (drop w cells) ≡ n * w = omega (arith, length-drop w cells) in
    let front = take-append-le w cells row room in
    let rest = ap (stored_packets w columns (suc n)) (drop-append-le w cells row room) ∙ stored-more w columns n (drop w cells) row left k in
    ap (λ (l : List ℕ). stored_packet columns l ∷ stored_packets w columns (suc n) (drop w (cells ++ row))) front
    ∙ ap (λ (ps : List (ℕ × List ℕ)). stored_packet columns (take w cells) ∷ ps) rest

pub numbers-length : (row : List (List ℕ)) → 0 < length row → length (numbers_of row) ≡ length row
numbers-length [] h = absurd (omega arith)
numbers-length (gap ∷ texts) h = ap suc (length-map texts _)

-- a word of a row, stored and read from its text
get_or-words : (texts : List (List ℕ)) (j : ℕ) → get_or (map (λ text. unwrap_or (word_of_text text) 0) texts) j 0 ≡ unwrap_or (word_of_text (get_or texts j [])) 0
get_or-words [] j = refl
get_or-words (t ∷ texts) zero = refl
get_or-words (t ∷ texts) (suc j) = get_or-words texts j

word-stored : (row : List (List ℕ)) (o : Option ℕ) → word_at (numbers_of row) o ≡ word_in row o
word-stored row None = refl
word-stored [] (Some j) = rw add-one refl
word-stored (gap ∷ texts) (Some j) = rw add-one (get_or-words texts j)

words-stored : (row : List (List ℕ)) (f : List ℕ → Option ℕ) (fields : List (List ℕ)) → map (word_at (numbers_of row)) (map f fields) ≡ map (λ field. word_in row (f field)) fields
words-stored row f [] = refl
words-stored row f (field ∷ fields) = let e = word-stored row (f field) in let rest = words-stored row f fields in cc

-- the packet of a row, from its stored numbers
pub packet-stored : (heading fields row : List (List ℕ)) → stored_packet (map (λ field. index_of (drop 1 heading) field) fields) (numbers_of row) ≡ packet_of fields heading row
packet-stored heading fields row = ap (λ (words : List ℕ). (gap_of row, words)) (words-stored row (λ field. index_of (drop 1 heading) field) fields)

pub packets-stored : (heading fields : List (List ℕ)) (rows : List (List (List ℕ)))
    → map (λ r. stored_packet (map (λ field. index_of (drop 1 heading) field) fields) (numbers_of r)) rows ≡ map (packet_of fields heading) rows
packets-stored heading fields [] = refl
packets-stored heading fields (row ∷ rows) = let e = packet-stored heading fields row in let rest = packets-stored heading fields rows in cc

index-within : (names : List (List ℕ)) (field : List ℕ) (width : ℕ) → length names + 1 ≤ width → (o : Option ℕ) → index_of names field ≡ o → IfSome o (λ c. c + 1 < width)
index-within names field width h None e = tt
index-within names field width h (Some j) e = let first = position-Some (is_same field) names j [] e in let less = first.0 in omega arith

-- each field's column is one of the row's
pub columns-within : (names fields : List (List ℕ)) (width : ℕ) → length names + 1 ≤ width
    → All (λ column. IfSome column (λ c. c + 1 < width)) (map (λ field. index_of names field) fields)
columns-within names fields width h = All-map (λ column. IfSome column (λ c. c + 1 < width)) (λ field. index_of names field) fields (λ k d less. index-within names _ width h _ refl)

-- as many words, written over others, are all of them
pub over-all : (old new : List ℕ) → length new ≡ length old → over old new ≡ new
over-all old new e = rw (← e) (take-append_seam new (drop (length new) old))

-- the cycles of a packet more
pub cycles-more : (packets : List (ℕ × List ℕ)) (k : ℕ) → k < length packets → cycles_of (take (k + 1) packets) ≡ cycles_of (take k packets) + (gap_at packets k + 1)
cycles-more packets k h =
    let e = take_more packets k (0, []) h in
    let p = get_or packets k (0, []) in
    let sums = sum_by-append (λ (p : ℕ × List ℕ). p.0) (take k packets) (p ∷ []) in
    let sizes = length-append (take k packets) (p ∷ []) in
    rw e (omega (arith, sums, sizes))

-- a row is as wide as the others
pub row-width : (w k n : ℕ) (cells : List ℕ) → k < n → length cells ≡ n * w → length (take w (drop (k * w) cells)) ≡ w
row-width w k n cells h e = let room = row-ends k n w h in rw (length-take-le w (drop (k * w) cells) (omega (arith, length-drop (k * w) cells))) refl

-- a trace that is stored so, and seen as these packets
pub seen-within : (w : ℕ) (columns : List (Option ℕ)) (n : ℕ) (cells : List ℕ) (packets : List (ℕ × List ℕ)) (k : ℕ)
    → stored_packets w columns n cells ≡ packets → k < length packets → k < n
seen-within w columns n cells packets k e h = let size = length-stored w columns n cells in let same = ap length e in omega arith

pub seen-at : (w : ℕ) (columns : List (Option ℕ)) (n : ℕ) (cells : List ℕ) (packets : List (ℕ × List ℕ)) (k : ℕ)
    → stored_packets w columns n cells ≡ packets → k < length packets → get_or packets k (0, []) ≡ stored_packet columns (take w (drop (k * w) cells))
seen-at w columns n cells packets k e h =
    ap (λ (l : List (ℕ × List ℕ)). get_or l k (0, [])) (sym e) ∙ stored-at w columns n cells k (0, []) (seen-within w columns n cells packets k e h)

-- the next row, stored
pub next-packets : (w : ℕ) (columns : List (Option ℕ)) (n : ℕ) (cells : List ℕ) (row : List (List ℕ)) (rest : List (List (List ℕ)))
    → length cells ≡ n * w → length row ≡ w → 0 < w
    → stored_packets w columns n cells ++ map (λ r. stored_packet columns (numbers_of r)) (row ∷ rest)
    ≡ stored_packets w columns (n + 1) (cells ++ numbers_of row) ++ map (λ r. stored_packet columns (numbers_of r)) rest
next-packets w columns n cells row rest stored wide some =
    let size : length (numbers_of row) ≡ w = numbers-length row (omega arith) ∙ wide in
    let more = stored-more w columns n cells (numbers_of row) stored size in
    let packets = map (λ (r : List (List ℕ)). stored_packet columns (numbers_of r)) rest in
    sym (append_assoc (stored_packets w columns n cells) (stored_packet columns (numbers_of row) ∷ []) packets)
    ∙ ap (λ (l : List (ℕ × List ℕ)). l ++ packets) (sym more)
    ∙ ap (λ (m : ℕ). stored_packets w columns m (cells ++ numbers_of row) ++ packets) (sym (add-one n))

pub next-stored : (w n : ℕ) (cells : List ℕ) (row : List (List ℕ)) → length cells ≡ n * w → length row ≡ w → 0 < w → length (cells ++ numbers_of row) ≡ (n + 1) * w
next-stored w n cells row stored wide some =
    let size : length (numbers_of row) ≡ w = numbers-length row (omega arith) ∙ wide in
    omega (arith, length-append cells (numbers_of row))

pub next-good : (w number : ℕ) (row : List (List ℕ)) (rest : List (List (List ℕ))) → length row ≡ w → fields_refusal number row ≡ None
    → rows_refusal w number (row ∷ rest) ≡ rows_refusal w (number + 1) rest
next-good w number row rest wide good = let same : (length row == w) ≡ true = search rules in rw (same, good) refl
