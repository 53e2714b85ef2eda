-- What holds of the statements of a list with one name for each value.
use Rattle.std.proofs.Common.{◌≡◌, ℕ, suc, ◌+◌, ◌<◌, ◌≤◌, ◌&&◌, ◌||◌, not, nat_eq, nat_lt, Bool, true, false, List, [], ◌∷◌, ◌++◌, length, map, refl, sym, ap, ◌∙◌, subst, arith, get_or, append_assoc, ⊎_elim}
use Rattle.std.specs.Prelude.{⊤}
use Rattle.std.specs.List.{AllByRecursion as Every}
use Rattle.std.proofs.Math.ListN.{get_or-append}
use Rattle.std.proofs.Math.Seq.{get_or-append_seam}
use Rattle.std.proofs.lemmas.Bool.{eqb-true, eq-eqb, and_parts, and_from, or_cases, or_left, or_right, cases_lt}
use Rattle.std.proofs.lemmas.List.{append-nil, get_or_past, length_push}
use Rattle.dom_words.specs.Order.{Access, are_ordered, is_read, is_read_at, is_written, may_stand, reads_after, writes_after}
use Rattle.dom_ast.specs.Kept.{part_within, parts_within}
use Rattle.dom_ast.specs.Named.{NamedForm, read, make, write, is_operand, is_same_operand, are_in_order, are_named, are_outputs, item_event, makes_of, named_ranges, operand_within}
use Rattle.dom_ast.specs.Resolved.{PartForm, number, field, state, fresh, made, call, un, chain, choice, parts_of}
use Rattle.dom_flat.specs.declared.line.Operand.{Operand}
use Rattle.dom_flat.specs.declared.line.Operand.TheVariants.{Const, Value}
use Rattle.dom_flat.specs.declared.line.Line.{Line}
use Rattle.dom_flat.specs.declared.line.Line.TheVariants as line
use Rattle.dom_flat.specs.Kept.{is_same, are_after, are_known, are_flanked, entered, event_of, have_small_moduli, is_known, lines_within, values_of}
use Rattle.dom_flat.specs.Flanks.{flank_of}
use Rattle.dom_flat.specs.Lines.{is_flank, makes as flat_makes}
use Rattle.dom_flat.proofs.Facts.{flanked_first, flanked_rest}
use Rattle.three_address.specs.Flattening.{AllFlattened, Flattened, all_flattened, as_is, with_line, flattened}
use Rattle.three_address.specs.Statements.{Draft, all_statements, draft, item_flattened, with_item, with_items}
use Rattle.three_address.proofs.Grown.{AreThere, Grown, Ordered, after_push, all_grow, all_place, grows, known_more, moduli_push, place_line, values_append, places, there_grown, within_push}

abbrev pub none_made : List Bool
none_made = []

-- the arrays that statements read and write, the last first
abbrev pub reads_of : List (Access Operand) → List Line → List (Access Operand)
reads_of reads [] = reads
reads_of reads (l ∷ lines) = reads_of (reads_after (event_of (flank_of l)) reads) lines

abbrev pub writes_of : List ℕ → List Line → List ℕ
writes_of writes [] = writes
writes_of writes (l ∷ lines) = writes_of (writes_after (event_of (flank_of l)) writes) lines

-- flanks stand right, with these reads and writes in the end
pub record Flanks (lines : List Line) (reads : List (Access Operand)) (writes : List ℕ) : Type 0 where
  pub stand : are_flanked [] [] lines ≡ true
  pub read_so : reads_of [] lines ≡ reads
  pub written_so : writes_of [] lines ≡ writes

flanked_append : (reads : List (Access Operand)) (writes : List ℕ) (a b : List Line) → are_flanked reads writes a ≡ true → are_flanked (reads_of reads a) (writes_of writes a) b ≡ true → are_flanked reads writes (a ++ b) ≡ true
flanked_append reads writes [] b h g = g
flanked_append reads writes (l ∷ as_) b h g =
    and_from (may_stand is_same reads writes (event_of (flank_of l))) _ (flanked_first reads writes l as_ h)
    (flanked_append (reads_after (event_of (flank_of l)) reads) (writes_after (event_of (flank_of l)) writes) as_ b (flanked_rest reads writes l as_ h) g)

reads_append : (reads : List (Access Operand)) (a b : List Line) → reads_of reads (a ++ b) ≡ reads_of (reads_of reads a) b
reads_append reads [] b = refl
reads_append reads (l ∷ as_) b = reads_append (reads_after (event_of (flank_of l)) reads) as_ b

writes_append : (writes : List ℕ) (a b : List Line) → writes_of writes (a ++ b) ≡ writes_of (writes_of writes a) b
writes_append writes [] b = refl
writes_append writes (l ∷ as_) b = writes_append (writes_after (event_of (flank_of l)) writes) as_ b

plain_reads : (reads : List (Access Operand)) (lines : List Line) → Every (λ l. is_flank l ≡ false) lines → reads_of reads lines ≡ reads
plain_reads reads [] p = refl
plain_reads reads (line.Fetch a i ∷ lines) p = absurd (let e : true ≡ false = p.0 in cc)
plain_reads reads (line.Store a i v ∷ lines) p = absurd (let e : true ≡ false = p.0 in cc)
plain_reads reads (line.Un o x ∷ lines) p = plain_reads reads lines p.1
plain_reads reads (line.Bin o x y ∷ lines) p = plain_reads reads lines p.1
plain_reads reads (line.Cond c x y ∷ lines) p = plain_reads reads lines p.1
plain_reads reads (line.Hash unit modulus args ∷ lines) p = plain_reads reads lines p.1

plain_writes : (writes : List ℕ) (lines : List Line) → Every (λ l. is_flank l ≡ false) lines → writes_of writes lines ≡ writes
plain_writes writes [] p = refl
plain_writes writes (line.Fetch a i ∷ lines) p = absurd (let e : true ≡ false = p.0 in cc)
plain_writes writes (line.Store a i v ∷ lines) p = absurd (let e : true ≡ false = p.0 in cc)
plain_writes writes (line.Un o x ∷ lines) p = plain_writes writes lines p.1
plain_writes writes (line.Bin o x y ∷ lines) p = plain_writes writes lines p.1
plain_writes writes (line.Cond c x y ∷ lines) p = plain_writes writes lines p.1
plain_writes writes (line.Hash unit modulus args ∷ lines) p = plain_writes writes lines p.1

plain_stands : (reads : List (Access Operand)) (writes : List ℕ) (lines : List Line) → Every (λ l. is_flank l ≡ false) lines → are_flanked reads writes lines ≡ true
plain_stands reads writes [] p = refl
plain_stands reads writes (line.Fetch a i ∷ lines) p = absurd (let e : true ≡ false = p.0 in cc)
plain_stands reads writes (line.Store a i v ∷ lines) p = absurd (let e : true ≡ false = p.0 in cc)
plain_stands reads writes (line.Un o x ∷ lines) p = plain_stands reads writes lines p.1
plain_stands reads writes (line.Bin o x y ∷ lines) p = plain_stands reads writes lines p.1
plain_stands reads writes (line.Cond c x y ∷ lines) p = plain_stands reads writes lines p.1
plain_stands reads writes (line.Hash unit modulus args ∷ lines) p = plain_stands reads writes lines p.1

flanks_grown : (a b : List Line) (reads : List (Access Operand)) (writes : List ℕ) → Grown a b → Flanks a reads writes → Flanks b reads writes
flanks_grown a b reads writes g f =
    subst (λ (ls : List Line). Flanks ls reads writes) (sym g.is) (record {
      stand = flanked_append [] [] a g.more f.stand (plain_stands (reads_of [] a) (writes_of [] a) g.more g.plain);
      read_so = reads_append [] a g.more ∙ plain_reads (reads_of [] a) g.more g.plain ∙ f.read_so;
      written_so = writes_append [] a g.more ∙ plain_writes (writes_of [] a) g.more g.plain ∙ f.written_so;
    })

flanks_fetch : (lines : List Line) (reads : List (Access Operand)) (writes : List ℕ) (a : ℕ) (i : Operand) → not (is_read reads a) ≡ true → Flanks lines reads writes → Flanks (lines ++ line.Fetch a i ∷ []) (record { array = a; index = i } ∷ reads) writes
flanks_fetch lines reads writes a i e f =
    record {
      stand = flanked_append [] [] lines (line.Fetch a i ∷ []) f.stand (and_from (not (is_read (reads_of [] lines) a)) true (subst (λ (rs : List (Access Operand)). not (is_read rs a) ≡ true) (sym f.read_so) e) refl);
      read_so = reads_append [] lines (line.Fetch a i ∷ []) ∙ ap (λ (rs : List (Access Operand)). record { array = a; index = i } ∷ rs) f.read_so;
      written_so = writes_append [] lines (line.Fetch a i ∷ []) ∙ f.written_so;
    }

flanks_store : (lines : List Line) (reads : List (Access Operand)) (writes : List ℕ) (a : ℕ) (i v : Operand) → is_read_at is_same reads a i ≡ true → not (is_written writes a) ≡ true → Flanks lines reads writes → Flanks (lines ++ line.Store a i v ∷ []) reads (a ∷ writes)
flanks_store lines reads writes a i v r w f =
    record {
      stand = flanked_append [] [] lines (line.Store a i v ∷ []) f.stand (and_from (is_read_at is_same (reads_of [] lines) a i && not (is_written (writes_of [] lines) a)) true (and_from (is_read_at is_same (reads_of [] lines) a i) (not (is_written (writes_of [] lines) a)) (subst (λ (rs : List (Access Operand)). is_read_at is_same rs a i ≡ true) (sym f.read_so) r) (subst (λ (ws : List ℕ). not (is_written ws a) ≡ true) (sym f.written_so) w)) refl);
      read_so = reads_append [] lines (line.Store a i v ∷ []) ∙ f.read_so;
      written_so = writes_append [] lines (line.Store a i v ∷ []) ∙ ap (λ (ws : List ℕ). a ∷ ws) f.written_so;
    }

-- the operand that a number, a field or a made value is
abbrev pub operand_of : List Operand → PartForm → Operand
operand_of values (number w) = Const w
operand_of values (field f) = Value f
operand_of values (made k) = get_or values k (Const 0)
operand_of values (state a i) = Const 0
operand_of values (fresh k) = Const 0
operand_of values (call unit ps) = Const 0
operand_of values (un o p) = Const 0
operand_of values (chain p os) = Const 0
operand_of values (choice c p q) = Const 0

-- it needs no statement
operand_flattened : (fields : ℕ) (values : List Operand) (lines : List Line) (p : PartForm) → is_operand p ≡ true → flattened fields values lines 0 p ≡ as_is lines (operand_of values p)
operand_flattened fields values lines (number w) e = refl
operand_flattened fields values lines (field f) e = refl
operand_flattened fields values lines (made k) e = refl
operand_flattened fields values lines (state a i) e = absurd (cc)
operand_flattened fields values lines (fresh k) e = absurd (cc)
operand_flattened fields values lines (call unit ps) e = absurd (cc)
operand_flattened fields values lines (un o p) e = absurd (cc)
operand_flattened fields values lines (chain p os) e = absurd (cc)
operand_flattened fields values lines (choice c p q) e = absurd (cc)

same_part : (p q : PartForm) → is_same_operand p q ≡ true → p ≡ q
same_part (number w) (number v) e = ap number (eqb-true w v e)
same_part (field f) (field g) e = ap field (eqb-true f g e)
same_part (made k) (made j) e = ap made (eqb-true k j e)
same_part (number w) (field f) e = absurd (cc)
same_part (number w) (state a i) e = absurd (cc)
same_part (number w) (fresh k) e = absurd (cc)
same_part (number w) (made k) e = absurd (cc)
same_part (number w) (call unit ps) e = absurd (cc)
same_part (number w) (un o p) e = absurd (cc)
same_part (number w) (chain p os) e = absurd (cc)
same_part (number w) (choice c p q) e = absurd (cc)
same_part (field f) (number w) e = absurd (cc)
same_part (field f) (state a i) e = absurd (cc)
same_part (field f) (fresh k) e = absurd (cc)
same_part (field f) (made k) e = absurd (cc)
same_part (field f) (call unit ps) e = absurd (cc)
same_part (field f) (un o p) e = absurd (cc)
same_part (field f) (chain p os) e = absurd (cc)
same_part (field f) (choice c p q) e = absurd (cc)
same_part (made j) (number w) e = absurd (cc)
same_part (made j) (field f) e = absurd (cc)
same_part (made j) (state a i) e = absurd (cc)
same_part (made j) (fresh k) e = absurd (cc)
same_part (made j) (call unit ps) e = absurd (cc)
same_part (made j) (un o p) e = absurd (cc)
same_part (made j) (chain p os) e = absurd (cc)
same_part (made j) (choice c p q) e = absurd (cc)
same_part (state a i) q e = absurd (cc)
same_part (fresh k) q e = absurd (cc)
same_part (call unit ps) q e = absurd (cc)
same_part (un o p) q e = absurd (cc)
same_part (chain p os) q e = absurd (cc)
same_part (choice c p r) q e = absurd (cc)

pub same_itself : (o : Operand) → is_same o o ≡ true
same_itself (Const w) = eq-eqb w w refl
same_itself (Value v) = eq-eqb v v refl

-- an operand of the items so far stays as it is when items are added
abbrev pub IsBefore : ℕ → PartForm → Type 0
IsBefore n (made k) = k < n
IsBefore n (number w) = ⊤
IsBefore n (field f) = ⊤
IsBefore n (state a i) = ⊤
IsBefore n (fresh k) = ⊤
IsBefore n (call unit ps) = ⊤
IsBefore n (un o p) = ⊤
IsBefore n (chain p os) = ⊤
IsBefore n (choice c p q) = ⊤

operand_stays : (values : List Operand) (x : Operand) (p : PartForm) → IsBefore (length values) p → operand_of (values ++ x ∷ []) p ≡ operand_of values p
operand_stays values x (made k) h = get_or-append values (x ∷ []) (Const 0) k h
operand_stays values x (number w) h = refl
operand_stays values x (field f) h = refl
operand_stays values x (state a i) h = refl
operand_stays values x (fresh k) h = refl
operand_stays values x (call unit ps) h = refl
operand_stays values x (un o p) h = refl
operand_stays values x (chain p os) h = refl
operand_stays values x (choice c p q) h = refl

before_more : (n : ℕ) (p : PartForm) → IsBefore n p → IsBefore (suc n) p
before_more n (made k) h = omega arith
before_more n (number w) h = tt
before_more n (field f) h = tt
before_more n (state a i) h = tt
before_more n (fresh k) h = tt
before_more n (call unit ps) h = tt
before_more n (un o p) h = tt
before_more n (chain p os) h = tt
before_more n (choice c p q) h = tt

within_before : (fields : ℕ) (so_far : List Bool) (p : PartForm) → part_within (named_ranges fields so_far) p ≡ true → IsBefore (length so_far) p
within_before fields so_far (made k) h =
    ⊎_elim (λ (q : k < length so_far). q) (λ (q : length so_far ≤ k). absurd (let past = get_or_past so_far k false q in cc)) (cases_lt k (length so_far))
within_before fields so_far (number w) h = tt
within_before fields so_far (field f) h = tt
within_before fields so_far (state a i) h = tt
within_before fields so_far (fresh k) h = tt
within_before fields so_far (call unit ps) h = tt
within_before fields so_far (un o p) h = tt
within_before fields so_far (chain p os) h = tt
within_before fields so_far (choice c p q) h = tt

-- the reads of items and those of their statements
abbrev pub Matched : List Operand → List (Access PartForm) → List (Access Operand) → Type 0
Matched values [] [] = ⊤
Matched values [] (q ∷ qs) = ⊥
Matched values (r ∷ rs) [] = ⊥
Matched values (r ∷ rs) (q ∷ qs) =
    ((r.array ≡ q.array) × (operand_of values r.index ≡ q.index) × IsBefore (length values) r.index) × Matched values rs qs

matched_more : (values : List Operand) (x : Operand) (rs : List (Access PartForm)) (qs : List (Access Operand)) → Matched values rs qs → Matched (values ++ x ∷ []) rs qs
matched_more values x [] [] m = tt
matched_more values x [] (q ∷ qs) m = absurd m
matched_more values x (r ∷ rs) [] m = absurd m
matched_more values x (r ∷ rs) (q ∷ qs) m =
    let size = length_push values x in
    let before : IsBefore (length (values ++ x ∷ [])) r.index = subst (λ (n : ℕ). IsBefore n r.index) (let e : suc (length values) ≡ length (values ++ x ∷ []) = omega arith in e) (before_more (length values) r.index m.0.2) in
    ((m.0.0, operand_stays values x r.index m.0.2 ∙ m.0.1, before), matched_more values x rs qs m.1)

matched_read : (values : List Operand) (rs : List (Access PartForm)) (qs : List (Access Operand)) (a : ℕ) → Matched values rs qs → is_read rs a ≡ is_read qs a
matched_read values [] [] a m = refl
matched_read values [] (q ∷ qs) a m = absurd m
matched_read values (r ∷ rs) [] a m = absurd m
matched_read values (r ∷ rs) (q ∷ qs) a m =
    ap (λ (x : ℕ). nat_eq x a || is_read rs a) m.0.0 ∙ ap (λ (b : Bool). nat_eq q.array a || b) (matched_read values rs qs a m.1)

matched_at : (values : List Operand) (rs : List (Access PartForm)) (qs : List (Access Operand)) (a : ℕ) (i : PartForm) → Matched values rs qs → is_read_at is_same_operand rs a i ≡ true → is_read_at is_same qs a (operand_of values i) ≡ true
matched_at values [] [] a i m e = absurd (cc)
matched_at values [] (q ∷ qs) a i m e = absurd m
matched_at values (r ∷ rs) [] a i m e = absurd m
matched_at values (r ∷ rs) (q ∷ qs) a i m e =
    ⊎_elim (λ (h : (nat_eq r.array a && is_same_operand r.index i) ≡ true).
    let p = and_parts (nat_eq r.array a) (is_same_operand r.index i) h in
    let is : q.index ≡ operand_of values i = sym m.0.1 ∙ ap (operand_of values) (same_part r.index i p.1) in
    or_left (nat_eq q.array a && is_same q.index (operand_of values i)) (is_read_at is_same qs a (operand_of values i))
    (and_from (nat_eq q.array a) (is_same q.index (operand_of values i)) (subst (λ (x : ℕ). nat_eq x a ≡ true) m.0.0 p.0) (subst (λ (o : Operand). is_same o (operand_of values i) ≡ true) (sym is) (same_itself (operand_of values i)))))
    (λ (h : is_read_at is_same_operand rs a i ≡ true).
    or_right (nat_eq q.array a && is_same q.index (operand_of values i)) (is_read_at is_same qs a (operand_of values i)) (matched_at values rs qs a i m.1 h))
    (or_cases (nat_eq r.array a && is_same_operand r.index i) (is_read_at is_same_operand rs a i) e)

module _ (fields arrays : ℕ) where
  -- a draft after items that make these values, with these reads and writes
  pub record Drafted (so_far : List Bool) (reads : List (Access PartForm)) (writes : List ℕ) (d : Draft) : Type 0 where
    pub size : length d.values ≡ length so_far
    pub lines : Ordered fields arrays d.lines
    pub there : AreThere fields arrays so_far d.values d.lines
    pub found : List (Access Operand)
    pub matched : Matched d.values reads found
    pub flanks : Flanks d.lines found writes

  more_known : (lines : List Line) (l : Line) (o : Operand) → is_known (values_of fields lines) o ≡ true → is_known (values_of fields (lines ++ l ∷ [])) o ≡ true
  more_known lines l o e =
      subst (λ (vs : List Bool). is_known vs o ≡ true) (sym (values_append fields lines (l ∷ []))) (known_more (values_of fields lines) (flat_makes l ∷ []) o e)

  there_more : (so_far : List Bool) (b : Bool) (values : List Operand) (lines : List Line) (x : Operand) → length values ≡ length so_far → AreThere fields arrays so_far values lines → (b ≡ true → is_known (values_of fields lines) x ≡ true)
      → AreThere fields arrays (so_far ++ b ∷ []) (values ++ x ∷ []) lines
  there_more so_far b values lines x size t known k e =
      ⊎_elim (λ (h : k < length so_far).
      ap (λ (o : Operand). is_known (values_of fields lines) o) (get_or-append values (x ∷ []) (Const 0) k (omega arith)) ∙ t k (sym (get_or-append so_far (b ∷ []) false k h) ∙ e))
      (λ (h : length so_far ≤ k). last (by_place h))
      (cases_lt k (length so_far))
    where
      by_place : length so_far ≤ k → k ≡ length so_far
      by_place h =
          ⊎_elim (λ (q : k < suc (length so_far)). omega arith) (λ (q : suc (length so_far) ≤ k). absurd (let size = length_push so_far b in let past : get_or (so_far ++ b ∷ []) k false ≡ false = get_or_past (so_far ++ b ∷ []) k false (omega arith) in cc)) (cases_lt k (suc (length so_far)))

      last : k ≡ length so_far → is_known (values_of fields lines) (get_or (values ++ x ∷ []) k (Const 0)) ≡ true
      last is =
          let is_true : b ≡ true = sym (get_or-append_seam so_far b [] false) ∙ ap (λ (j : ℕ). get_or (so_far ++ b ∷ []) j false) (sym is) ∙ e in
          ap (λ (j : ℕ). is_known (values_of fields lines) (get_or (values ++ x ∷ []) j (Const 0))) (is ∙ sym size)
          ∙ ap (is_known (values_of fields lines)) (get_or-append_seam values x [] (Const 0))
          ∙ known is_true

  sizes_more : (so_far : List Bool) (b : Bool) (values : List Operand) (x : Operand) → length values ≡ length so_far → length (values ++ x ∷ []) ≡ length (so_far ++ b ∷ [])
  sizes_more so_far b values x e = let p = length_push values x in let q = length_push so_far b in omega arith

  make_drafted : (so_far : List Bool) (reads : List (Access PartForm)) (writes : List ℕ) (d : Draft) (p : PartForm) → part_within (named_ranges fields so_far) p ≡ true → Drafted so_far reads writes d → Drafted (so_far ++ true ∷ []) reads writes (with_item fields d (make p))
  make_drafted so_far reads writes d p h s =
      let f = flattened fields d.values d.lines 0 p in
      let g = grows fields d.values d.lines 0 p in
      let placed = places fields arrays so_far d.values d.lines 0 p refl s.there s.lines h in
      record {
        size = sizes_more so_far true d.values f.operand s.size;
        lines = placed.lines;
        there = there_more so_far true d.values f.lines f.operand s.size (there_grown fields arrays so_far d.values d.lines f.lines g s.there) (λ e. placed.operand);
        found = s.found;
        matched = matched_more d.values f.operand reads s.found s.matched;
        flanks = flanks_grown d.lines f.lines s.found writes g s.flanks;
      }

  operand_known : (so_far : List Bool) (values : List Operand) (lines : List Line) (p : PartForm) → Ordered fields arrays lines → AreThere fields arrays so_far values lines → operand_within fields so_far p ≡ true → is_known (values_of fields lines) (operand_of values p) ≡ true
  operand_known so_far values lines p s t h =
      let q = and_parts (is_operand p) (part_within (named_ranges fields so_far) p) h in
      subst (λ (f : Flattened). is_known (values_of fields f.lines) f.operand ≡ true) (operand_flattened fields values lines p q.0) (places fields arrays so_far values lines 0 p refl t s q.1).operand

  read_drafted : (so_far : List Bool) (reads : List (Access PartForm)) (writes : List ℕ) (d : Draft) (a : ℕ) (i : PartForm) → nat_lt a arrays ≡ true → operand_within fields so_far i ≡ true → not (is_read reads a) ≡ true → Drafted so_far reads writes d
      → Drafted (so_far ++ true ∷ []) (record { array = a; index = i } ∷ reads) writes (with_item fields d (read a i))
  read_drafted so_far reads writes d a i ha hi hr s =
      let o = operand_of d.values i in
      let l = line.Fetch a o in
      let after = d.lines ++ l ∷ [] in
      let x = Value (fields + length d.lines) in
      let q = and_parts (is_operand i) (part_within (named_ranges fields so_far) i) hi in
      let is : with_line fields d.lines l ≡ item_flattened fields d.values d.lines (read a i) =
      ap (λ (f : Flattened). with_line fields f.lines (line.Fetch a f.operand)) (sym (operand_flattened fields d.values d.lines i q.0)) in
      let known = operand_known so_far d.values d.lines i s.lines s.there hi in
      let placed = place_line fields arrays d.lines l s.lines (and_from (is_known (values_of fields d.lines) o) true known refl) ha refl refl refl in
      let grown_there : AreThere fields arrays so_far d.values after = λ k e. more_known d.lines l (get_or d.values k (Const 0)) (s.there k e) in
      let before : IsBefore (length d.values) i = subst (λ (n : ℕ). IsBefore n i) (sym s.size) (within_before fields so_far i q.1) in
      let size = length_push d.values x in
      subst (λ (f : Flattened). Drafted (so_far ++ true ∷ []) (record { array = a; index = i } ∷ reads) writes (draft f.lines (d.values ++ f.operand ∷ []))) is (record {
        size = sizes_more so_far true d.values x s.size;
        lines = placed.lines;
        there = there_more so_far true d.values after x s.size grown_there (λ e. placed.operand);
        found = record { array = a; index = o } ∷ s.found;
        matched = ((refl, operand_stays d.values x i before, subst (λ (n : ℕ). IsBefore n i) (let e : suc (length d.values) ≡ length (d.values ++ x ∷ []) = omega arith in e) (before_more (length d.values) i before)), matched_more d.values x reads s.found s.matched);
        flanks = flanks_fetch d.lines s.found writes a o (ap not (sym (matched_read d.values reads s.found a s.matched)) ∙ hr) s.flanks;
      })

  write_drafted : (so_far : List Bool) (reads : List (Access PartForm)) (writes : List ℕ) (d : Draft) (a : ℕ) (i p : PartForm) → nat_lt a arrays ≡ true → operand_within fields so_far i ≡ true → operand_within fields so_far p ≡ true → is_read_at is_same_operand reads a i ≡ true → not (is_written writes a) ≡ true → Drafted so_far reads writes d
      → Drafted (so_far ++ false ∷ []) reads (a ∷ writes) (with_item fields d (write a i p))
  write_drafted so_far reads writes d a i p ha hi hp hr hw s =
      let o = operand_of d.values i in
      let u = operand_of d.values p in
      let l = line.Store a o u in
      let after = d.lines ++ l ∷ [] in
      let x = Value (fields + length d.lines) in
      let q = and_parts (is_operand i) (part_within (named_ranges fields so_far) i) hi in
      let r = and_parts (is_operand p) (part_within (named_ranges fields so_far) p) hp in
      let is : with_line fields d.lines l ≡ item_flattened fields d.values d.lines (write a i p) =
      ap (λ (f : Flattened). with_line fields f.lines (line.Store a o f.operand)) (sym (operand_flattened fields d.values d.lines p r.0))
      ∙ ap (λ (f : Flattened). with_line fields (flattened fields d.values f.lines 0 p).lines (line.Store a f.operand (flattened fields d.values f.lines 0 p).operand)) (sym (operand_flattened fields d.values d.lines i q.0)) in
      let known_i = operand_known so_far d.values d.lines i s.lines s.there hi in
      let known_p = operand_known so_far d.values d.lines p s.lines s.there hp in
      let known : are_known (values_of fields d.lines) (o ∷ u ∷ []) ≡ true =
      and_from (is_known (values_of fields d.lines) o) _ known_i (and_from (is_known (values_of fields d.lines) u) true known_p refl) in
      let grown_there : AreThere fields arrays so_far d.values after = λ k e. more_known d.lines l (get_or d.values k (Const 0)) (s.there k e) in
      subst (λ (f : Flattened). Drafted (so_far ++ false ∷ []) reads (a ∷ writes) (draft f.lines (d.values ++ f.operand ∷ []))) is (record {
        size = sizes_more so_far false d.values x s.size;
        lines = record { order = after_push (entered fields) d.lines l s.lines.order known; ranges = within_push arrays d.lines l s.lines.ranges ha refl; moduli = moduli_push d.lines l s.lines.moduli refl };
        there = there_more so_far false d.values after x s.size grown_there (λ e. absurd (let f : false ≡ true = e in cc));
        found = s.found;
        matched = matched_more d.values x reads s.found s.matched;
        flanks = flanks_store d.lines s.found writes a o u (matched_at d.values reads s.found a i s.matched hr) hw s.flanks;
      })

  -- a draft at the end of items
  pub record Ending (so_far : List Bool) (d : Draft) : Type 0 where
    pub reads : List (Access PartForm)
    pub writes : List ℕ
    pub drafted : Drafted so_far reads writes d

  pub items_drafted : (items : List NamedForm) (so_far : List Bool) (reads : List (Access PartForm)) (writes : List ℕ) (d : Draft) → are_named fields arrays so_far items ≡ true → are_ordered is_same_operand reads writes (map item_event items) ≡ true → Drafted so_far reads writes d → Ending (so_far ++ makes_of items) (with_items fields d items)
  items_drafted [] so_far reads writes d h g s =
      subst (λ (bs : List Bool). Ending bs d) (sym (append-nil so_far)) (record { reads = reads; writes = writes; drafted = s })
  items_drafted (read a i ∷ items) so_far reads writes d h g s =
      let x = and_parts (nat_lt a arrays && operand_within fields so_far i) (are_named fields arrays (so_far ++ true ∷ []) items) h in
      let y = and_parts (nat_lt a arrays) (operand_within fields so_far i) x.0 in
      let z = and_parts (not (is_read reads a)) (are_ordered is_same_operand (record { array = a; index = i } ∷ reads) writes (map item_event items)) g in
      subst (λ (bs : List Bool). Ending bs (with_items fields d (read a i ∷ items))) (append_assoc so_far (true ∷ []) (makes_of items))
      (items_drafted items (so_far ++ true ∷ []) (record { array = a; index = i } ∷ reads) writes (with_item fields d (read a i)) x.1 z.1 (read_drafted so_far reads writes d a i y.0 y.1 z.0 s))
  items_drafted (make p ∷ items) so_far reads writes d h g s =
      let x = and_parts (part_within (named_ranges fields so_far) p) (are_named fields arrays (so_far ++ true ∷ []) items) h in
      subst (λ (bs : List Bool). Ending bs (with_items fields d (make p ∷ items))) (append_assoc so_far (true ∷ []) (makes_of items))
      (items_drafted items (so_far ++ true ∷ []) reads writes (with_item fields d (make p)) x.1 g (make_drafted so_far reads writes d p x.0 s))
  items_drafted (write a i p ∷ items) so_far reads writes d h g s =
      let x = and_parts (nat_lt a arrays && (operand_within fields so_far i && operand_within fields so_far p)) (are_named fields arrays (so_far ++ false ∷ []) items) h in
      let y = and_parts (nat_lt a arrays) (operand_within fields so_far i && operand_within fields so_far p) x.0 in
      let o = and_parts (operand_within fields so_far i) (operand_within fields so_far p) y.1 in
      let z = and_parts (is_read_at is_same_operand reads a i && not (is_written writes a)) (are_ordered is_same_operand reads (a ∷ writes) (map item_event items)) g in
      let w = and_parts (is_read_at is_same_operand reads a i) (not (is_written writes a)) z.0 in
      subst (λ (bs : List Bool). Ending bs (with_items fields d (write a i p ∷ items))) (append_assoc so_far (false ∷ []) (makes_of items))
      (items_drafted items (so_far ++ false ∷ []) reads (a ∷ writes) (with_item fields d (write a i p)) x.1 z.1 (write_drafted so_far reads writes d a i p y.0 o.0 o.1 w.0 w.1 s))

  pub outputs_within : (so_far : List Bool) (outputs : List PartForm) → are_outputs fields so_far outputs ≡ true → parts_within (named_ranges fields so_far) (parts_of outputs) ≡ true
  outputs_within so_far [] h = refl
  outputs_within so_far (p ∷ ps) h =
      let x = and_parts (operand_within fields so_far p) (are_outputs fields so_far ps) h in
      let y = and_parts (is_operand p) (part_within (named_ranges fields so_far) p) x.0 in
      and_from (part_within (named_ranges fields so_far) p) _ y.1 (outputs_within so_far ps x.1)

  -- all statements of a list
  pub record Whole (all : AllFlattened) : Type 0 where
    pub order : are_after (entered fields) all.lines ≡ true
    pub ranges : lines_within arrays all.lines ≡ true
    pub moduli : have_small_moduli all.lines ≡ true
    pub flanks : are_flanked [] [] all.lines ≡ true
    pub outputs : are_known (values_of fields all.lines) all.operands ≡ true

  pub whole : (items : List NamedForm) (outputs : List PartForm) → are_named fields arrays [] items ≡ true → are_in_order items ≡ true → are_outputs fields (makes_of items) outputs ≡ true → Whole (all_statements fields items outputs)
  whole items outputs h g o =
      let start : Drafted [] [] [] (draft [] []) = record {
        size = refl;
        lines = record { order = refl; ranges = refl; moduli = refl };
        there = λ k e. absurd (let past : get_or none_made k false ≡ false = get_or_past none_made k false (omega arith) in cc);
        found = [];
        matched = tt;
        flanks = record { stand = refl; read_so = refl; written_so = refl };
      } in
      let ending = items_drafted items [] [] [] (draft [] []) h g start in
      let d = with_items fields (draft [] []) items in
      let s = ending.drafted in
      let placed = all_place fields arrays (makes_of items) d.values d.lines (parts_of outputs) s.there s.lines (outputs_within (makes_of items) outputs o) in
      let flanks = flanks_grown d.lines _ s.found ending.writes (all_grow fields d.values d.lines (parts_of outputs)) s.flanks in
      record { order = placed.lines.order; ranges = placed.lines.ranges; moduli = placed.lines.moduli; flanks = flanks.stand; outputs = placed.operands }

pub outputs_count : (fields : ℕ) (values : List Operand) (lines : List Line) (ps : List PartForm) → length (all_flattened fields values lines (parts_of ps)).operands ≡ length ps
outputs_count fields values lines [] = refl
outputs_count fields values lines (p ∷ ps) = ap suc (outputs_count fields values (flattened fields values lines 0 p).lines ps)
