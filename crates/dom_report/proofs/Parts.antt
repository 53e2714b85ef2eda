-- Bytes after bytes, and the lines of what leaves.
use Rattle.std.proofs.Common.{◌≡◌, ℕ, suc, ◌+◌, List, [], ◌∷◌, ◌++◌, length, take, refl, sym, ap, ◌∙◌, append_assoc, append-nil, length-append, Option, Some, None, Result, Ok, Err, OnOk, OnErr, replicate, arith}
use Rattle.std.proofs.Math.Seq.{take-append-add, take-length}
use Rattle.std.proofs.lemmas.List.{take-append-le}
use Rattle.dom_io.specs.Held.{IsPart, appended}
use Rattle.dom_io.specs.Causes.{HasCause}
use Rattle.banzai_config.specs.Action.{Entry}
use Rattle.dom_report.specs.Report.{cycle_line, packet_lines}

-- bytes after bytes
pub appended-appended : (held : Option (List ℕ)) (a b : List ℕ) → appended (appended held a) b ≡ appended held (a ++ b)
appended-appended None a b = refl
appended-appended (Some h) a b = ap Some (append_assoc h a b)

pub put_then : (h0 h1 h2 : Option (List ℕ)) (a b : List ℕ) → h1 ≡ appended h0 a → h2 ≡ appended h1 b → h2 ≡ appended h0 (a ++ b)
put_then h0 h1 h2 a b first second = second ∙ ap (λ h. appended h b) first ∙ appended-appended h0 a b

-- a part of the first bytes is a part of all
pub part_before : (h0 h1 : Option (List ℕ)) (a b : List ℕ) → IsPart h0 h1 a → IsPart h0 h1 (a ++ b)
part_before h0 h1 a b part =
    (part.0, omega (arith, length-append a b, part.1), part.2 ∙ ap (appended h0) (sym (take-append-le part.0 a b part.1)))

-- a part of the bytes behind the first ones, all of which were put
pub part_after : (h0 h1 h2 : Option (List ℕ)) (a b : List ℕ) → h1 ≡ appended h0 a → IsPart h1 h2 b → IsPart h0 h2 (a ++ b)
part_after h0 h1 h2 a b first part =
    (length a + part.0, omega (arith, length-append a b, part.1), put_then h0 h1 h2 a (take part.0 b) first part.2 ∙ ap (appended h0) (sym (take-append-add a b part.0)))

-- all of the bytes are a part of them
pub part_all : (h0 h1 : Option (List ℕ)) (a : List ℕ) → h1 ≡ appended h0 a → IsPart h0 h1 a
part_all h0 h1 a all = (length a, omega arith, all ∙ ap (appended h0) (sym (take-length a)))

-- nothing put is a part of any bytes
pub part_none : (h : Option (List ℕ)) (a : List ℕ) → IsPart h h a
part_none None a = (0, omega arith, refl)
part_none (Some h) a = (0, omega arith, ap Some (sym (append-nil h)))

-- a fault after calls that left the count
pub cause_then : {T E : Type 0} (f0 f1 f2 : ℕ) (result : Result T E) → f1 ≡ f0 → HasCause f1 f2 result → HasCause f0 f2 result
cause_then f0 f1 f2 result same cause = rw (← same) cause

pub packet_lines-append : (cycle : ℕ) (xs ys : List Entry) → packet_lines cycle (xs ++ ys) ≡ packet_lines cycle xs ++ packet_lines (cycle + length xs) ys
packet_lines-append cycle [] ys = ap (λ c. packet_lines c ys) (omega arith)
packet_lines-append cycle (x ∷ xs) ys =
    let later : cycle + 1 + length xs ≡ cycle + suc (length xs) = omega arith in
    ap (λ l. cycle_line cycle x ++ l) (packet_lines-append (cycle + 1) xs ys ∙ ap (λ c. packet_lines (cycle + 1) xs ++ packet_lines c ys) later)
    ∙ sym (append_assoc (cycle_line cycle x) (packet_lines (cycle + 1) xs) (packet_lines (cycle + length (x ∷ xs)) ys))

-- what a success and a fault tell
pub on_ok : {T E : Type 0} {P Q : Type 0} (result : Result T E) → (P → Q) → OnOk result P → OnOk result Q
on_ok (Ok x) f p = f p
on_ok (Err e) f p = tt

pub on_err : {T E : Type 0} {P Q : Type 0} (result : Result T E) → (P → Q) → OnErr result P → OnErr result Q
on_err (Ok x) f p = tt
on_err (Err e) f p = f p

-- idle cycles
abbrev pub idles : ℕ → List Entry
idles count = replicate count None
