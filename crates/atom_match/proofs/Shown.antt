-- The flanks of a class are those that its codelet holds.
use Rattle.std.proofs.Common.{◌≡◌, ℕ, ◌+◌, ◌-◌, ◌<◌, Bool, true, false, nat_eq, List, [], ◌∷◌, Option, Some, None, length, map, refl, sym, ap, ◌∙◌, if◌then◌else◌, inl, inr}
use Rattle.std.specs.Prelude.{slice_get, unwrap_or, option_map}
use Rattle.std.proofs.lemmas.Bool.{lt-ltb}
use Rattle.dom_flat.specs.declared.line.Operand.{Operand}
use Rattle.dom_flat.specs.declared.line.Line.{Line}
use Rattle.dom_flat.specs.declared.line.Line.TheVariants as line
use Rattle.dom_flat.specs.Lines.{with_operands}
use Rattle.codelets.specs.declared.answer.Codelets.{Codelets}
use Rattle.codelets.specs.declared.codelet.Codelet.{Codelet}
use Rattle.codelets.specs.declared.held.Held.{Held}
use Rattle.codelets.specs.Lists.{IsIn, first_some, has, option_or}
use Rattle.codelets.specs.Linked.{Linked, count, twins_of}
use Rattle.codelets.specs.Cut.{Cut, cut, has_flank, line_of, option_line, outer, seen_by}
use Rattle.codelets.specs.Flat.{cut_of, linked_of}
use Rattle.codelets.specs.Answer.{line_in, slot_of}
use Rattle.codelets.specs.Held.{held, held_at, held_by, stored_by as writes}
use Rattle.codelets.proofs.Slots.{fetched_by as its_held, held_fetch, held_is}
use Rattle.atom_match.specs.declared.class.Flanks.{Flanks}
use Rattle.atom_match.specs.Classes.{class_of, fetched_by, flanks_at, read_of, stored_by, write_of}
use Rattle.atom_match.proofs.Given.{IsCodelet, below, line_is, map_map, map_same, ok}

first_same : {X Y : Type 0} (f g : X → Option Y) (xs : List X) → ((x : X) → IsIn x xs → f x ≡ g x) → first_some f xs ≡ first_some g xs
first_same f g [] h = refl
first_same f g (x ∷ xs) h =
    ap (λ o. option_or o (first_some f xs)) (h x (inl refl)) ∙ ap (λ o. option_or (g x) o) (first_same f g xs (λ y i. h y (inr i)))

first_map : {X Y Z : Type 0} (g : Y → Z) (f : X → Option Y) (xs : List X) → first_some (λ x. option_map g (f x)) xs ≡ option_map g (first_some f xs)
first_map g f [] = refl
first_map {Y = Y} {Z = Z} g f (x ∷ xs) = by_case (f x) (first_map g f xs)
  where
    by_case : (o : Option Y) → first_some (λ x. option_map g (f x)) xs ≡ option_map g (first_some f xs) → option_or (option_map g o) (first_some (λ x. option_map g (f x)) xs) ≡ option_map g (option_or o (first_some f xs))
    by_case None r = r
    by_case (Some y) r = refl

-- the flanks that a codelet holds, as the matcher has them
abbrev pub flanks_held : Held → Flanks
flanks_held h = record { index = h.index; read = h.read; write = h.write }

module _ (P : Linked) where
  -- a statement of the list with its operands as statement b has them
  abbrev pub with_seen : ℕ → Option Line → Option Line
  with_seen b o = option_line (with_operands (seen_by (cut P) b)) o

  line_low : (b : ℕ) → b < count P → line_of (cut P) b ≡ with_seen b (slice_get P.lines b)
  line_low b h =
      ap (λ (t : Bool). if t then option_line (with_operands (seen_by (cut P) b)) (slice_get P.lines b) else (if has (twins_of P) (b - count P) then option_line (with_operands (outer (cut P))) (slice_get P.lines (b - count P)) else None)) (lt-ltb b (count P) h)

  fetch_seen : (c : List ℕ) (array b : ℕ) (o : Option Line) → fetched_by P.fields array b (with_seen b o) ≡ option_map (λ h. h.read) (held_by (cut P) c array b o)
  fetch_seen c array b None = refl
  fetch_seen c array b (Some (line.Fetch a i)) = by_case (nat_eq a array)
    where
      by_case : (x : Bool) → (if x then Some (P.fields + b) else None) ≡ option_map (λ (h : Held). h.read) (if x then Some (its_held P c array b i) else None)
      by_case true = refl
      by_case false = refl
  fetch_seen c array b (Some (line.Store a i v)) = refl
  fetch_seen c array b (Some (line.Un op a)) = refl
  fetch_seen c array b (Some (line.Bin op a d)) = refl
  fetch_seen c array b (Some (line.Cond a d e)) = refl
  fetch_seen c array b (Some (line.Hash unit modulus args)) = refl

  store_seen : (array b : ℕ) (o : Option Line) → stored_by array (with_seen b o) ≡ writes (cut P) array b o
  store_seen array b None = refl
  store_seen array b (Some (line.Fetch a i)) = refl
  store_seen array b (Some (line.Store a i v)) = refl
  store_seen array b (Some (line.Un op a)) = refl
  store_seen array b (Some (line.Bin op a d)) = refl
  store_seen array b (Some (line.Cond a d e)) = refl
  store_seen array b (Some (line.Hash unit modulus args)) = refl

module _ (cs : Codelets) (c : Codelet) (is : IsCodelet cs c) (flank : has_flank (cut_of cs.flat) c.lines ≡ true) where
  -- a statement of the class, as the class has it
  line_seen : (b : ℕ) → IsIn b c.lines → line_in cs.table b ≡ with_seen (linked_of cs.flat) b (slice_get cs.flat.lines b)
  line_seen b i = line_is cs b ∙ line_low (linked_of cs.flat) b (below cs c is flank b i)

  read_is : (h : Held) → IsIn h (held (cut_of cs.flat) c.lines) → read_of (length cs.flat.fields) cs.table c.lines h.array ≡ h.read
  read_is h hi =
      let P : Linked = linked_of cs.flat in
      let r = held_is P (ok cs) c.lines h hi in
      let all : first_some (λ b. fetched_by (length cs.flat.fields) h.array b (line_in cs.table b)) c.lines ≡ first_some (λ b. option_map (λ (g : Held). g.read) (held_by (cut P) c.lines h.array b (slice_get cs.flat.lines b))) c.lines =
      first_same (λ b. fetched_by (length cs.flat.fields) h.array b (line_in cs.table b)) (λ b. option_map (λ (g : Held). g.read) (held_by (cut P) c.lines h.array b (slice_get cs.flat.lines b))) c.lines
      (λ b i. ap (fetched_by (length cs.flat.fields) h.array b) (line_seen b i) ∙ fetch_seen P c.lines h.array b (slice_get cs.flat.lines b)) in
      let found : held_at (cut P) c.lines h.array ≡ Some (its_held P c.lines h.array r.0 r.1) = held_fetch P (ok cs) c.lines r.0 h.array r.1 r.2 r.3 in
      ap (λ (o : Option ℕ). unwrap_or o 0) (all ∙ first_map (λ (g : Held). g.read) (λ b. held_by (cut P) c.lines h.array b (slice_get cs.flat.lines b)) c.lines ∙ ap (option_map (λ (g : Held). g.read)) found)
      ∙ sym (ap (λ (g : Held). g.read) r.4)

  write_is : (h : Held) → IsIn h (held (cut_of cs.flat) c.lines) → write_of cs.table c.lines h.array ≡ h.write
  write_is h hi =
      let P : Linked = linked_of cs.flat in
      let r = held_is P (ok cs) c.lines h hi in
      first_same (λ b. stored_by h.array (line_in cs.table b)) (λ b. writes (cut P) h.array b (slice_get cs.flat.lines b)) c.lines
      (λ b i. ap (stored_by h.array) (line_seen b i) ∙ store_seen P h.array b (slice_get cs.flat.lines b))
      ∙ sym (ap (λ (g : Held). g.write) r.4)

  flanks_are : (h : Held) → IsIn h (held (cut_of cs.flat) c.lines) → flanks_at cs c.lines (slot_of (cut_of cs.flat) h) ≡ flanks_held h
  flanks_are h hi =
      ap (λ (n : ℕ). let f : Flanks = record { index = h.index; read = n; write = write_of cs.table c.lines h.array } in f) (read_is h hi)
      ∙ ap (λ (o : Option Operand). let f : Flanks = record { index = h.index; read = h.read; write = o } in f) (write_is h hi)

  -- the class's slots
  pub slots_are : (class_of cs c).slots ≡ map flanks_held (held (cut_of cs.flat) c.lines)
  slots_are =
      let D : Cut = cut_of cs.flat in
      ap (λ (z : Codelet). map (flanks_at cs c.lines) z.slots) is.whole
      ∙ map_map (flanks_at cs c.lines) (slot_of D) (held D c.lines)
      ∙ map_same (λ h. flanks_at cs c.lines (slot_of D h)) flanks_held (held D c.lines) flanks_are
