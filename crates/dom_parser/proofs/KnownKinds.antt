-- Which tokens the tests on kinds let through.
use Rattle.std.proofs.Common.{◌≡◌, ℕ, zero, suc, Bool, true, false, Some, None, refl, sym, ap, ◌∙◌, nat_eq, if◌then◌else◌}
use Rattle.std.proofs.lemmas.Bool.{eqb-true}
use Rattle.dom_words.specs.declared.operators.BinOp.{BinOp}
use Rattle.dom_words.specs.declared.operators.BinOp.TheVariants as bin
use Rattle.dom_words.specs.declared.operators.UnOp.{UnOp}
use Rattle.dom_words.specs.declared.operators.UnOp.TheVariants as un
use Rattle.dom_parser.specs.declared.kinds.Fixed.{Fixed}
use Rattle.dom_parser.specs.declared.kinds.Fixed.TheVariants as fixed
use Rattle.dom_parser.specs.declared.kinds.Kind.{Kind}
use Rattle.dom_parser.specs.declared.kinds.Kind.TheVariants as kind
use Rattle.dom_parser.specs.declared.kinds.Begin.TheVariants as begin
use Rattle.dom_parser.specs.declared.kinds.Suffix.TheVariants as suffix
use Rattle.dom_parser.specs.declared.kinds.Lead.TheVariants as lead
use Rattle.dom_parser.specs.declared.kinds.Declared.TheVariants as declared
use Rattle.dom_parser.specs.Tokens.{rank_of, is_minus}
use Rattle.dom_parser.specs.inner.AtPlace.{fixed_number, is_fixed, is_name, number_of, operator_of, unary_of}
use Rattle.dom_parser.specs.Grammar.{un_kind}
use Rattle.dom_parser.specs.inner.Following.{begin_of, suffix_of, lead_of, declared_of}

abbrev fixed_with : ℕ → Fixed
fixed_with zero = fixed.Struct
fixed_with (suc zero) = fixed.Int
fixed_with (suc (suc zero)) = fixed.Void
fixed_with (suc (suc (suc zero))) = fixed.If
fixed_with (suc (suc (suc (suc zero)))) = fixed.Else
fixed_with (suc (suc (suc (suc (suc zero))))) = fixed.Define
fixed_with (suc (suc (suc (suc (suc (suc zero)))))) = fixed.Assign
fixed_with (suc (suc (suc (suc (suc (suc (suc zero))))))) = fixed.Question
fixed_with (suc (suc (suc (suc (suc (suc (suc (suc zero)))))))) = fixed.Colon
fixed_with (suc (suc (suc (suc (suc (suc (suc (suc (suc zero))))))))) = fixed.Semi
fixed_with (suc (suc (suc (suc (suc (suc (suc (suc (suc (suc zero)))))))))) = fixed.Comma
fixed_with (suc (suc (suc (suc (suc (suc (suc (suc (suc (suc (suc zero))))))))))) = fixed.Dot
fixed_with (suc (suc (suc (suc (suc (suc (suc (suc (suc (suc (suc (suc zero)))))))))))) = fixed.OpenParen
fixed_with (suc (suc (suc (suc (suc (suc (suc (suc (suc (suc (suc (suc (suc zero))))))))))))) = fixed.CloseParen
fixed_with (suc (suc (suc (suc (suc (suc (suc (suc (suc (suc (suc (suc (suc (suc zero)))))))))))))) = fixed.OpenBracket
fixed_with (suc (suc (suc (suc (suc (suc (suc (suc (suc (suc (suc (suc (suc (suc (suc zero))))))))))))))) = fixed.CloseBracket
fixed_with (suc (suc (suc (suc (suc (suc (suc (suc (suc (suc (suc (suc (suc (suc (suc (suc zero)))))))))))))))) = fixed.OpenBrace
fixed_with (suc (suc (suc (suc (suc (suc (suc (suc (suc (suc (suc (suc (suc (suc (suc (suc (suc zero))))))))))))))))) = fixed.CloseBrace
fixed_with (suc (suc (suc (suc (suc (suc (suc (suc (suc (suc (suc (suc (suc (suc (suc (suc (suc (suc n)))))))))))))))))) = fixed.Hash

fixed_back : (f : Fixed) → fixed_with (fixed_number f) ≡ f
fixed_back fixed.Struct = refl
fixed_back fixed.Int = refl
fixed_back fixed.Void = refl
fixed_back fixed.If = refl
fixed_back fixed.Else = refl
fixed_back fixed.Define = refl
fixed_back fixed.Assign = refl
fixed_back fixed.Question = refl
fixed_back fixed.Colon = refl
fixed_back fixed.Semi = refl
fixed_back fixed.Comma = refl
fixed_back fixed.Dot = refl
fixed_back fixed.OpenParen = refl
fixed_back fixed.CloseParen = refl
fixed_back fixed.OpenBracket = refl
fixed_back fixed.CloseBracket = refl
fixed_back fixed.OpenBrace = refl
fixed_back fixed.CloseBrace = refl
fixed_back fixed.Hash = refl

same_fixed : (f g : Fixed) → fixed_number f ≡ fixed_number g → f ≡ g
same_fixed f g e = sym (fixed_back f) ∙ ap fixed_with e ∙ fixed_back g

pub kind_fixed : (f : Fixed) (k : Kind) → is_fixed f k ≡ true → k ≡ kind.Fixed f
kind_fixed f (kind.Fixed g) e = ap kind.Fixed (same_fixed g f (eqb-true (fixed_number g) (fixed_number f) e))
kind_fixed f kind.Name e = absurd (cc)
kind_fixed f (kind.Number n) e = absurd (cc)
kind_fixed f kind.Inv e = absurd (cc)
kind_fixed f kind.Not e = absurd (cc)
kind_fixed f (kind.Operator o) e = absurd (cc)
kind_fixed f kind.Forbidden e = absurd (cc)
kind_fixed f kind.End e = absurd (cc)

pub kind_name : (k : Kind) → is_name k ≡ true → k ≡ kind.Name
kind_name kind.Name e = refl
kind_name (kind.Number n) e = absurd (cc)
kind_name kind.Inv e = absurd (cc)
kind_name kind.Not e = absurd (cc)
kind_name kind.Forbidden e = absurd (cc)
kind_name kind.End e = absurd (cc)
kind_name (kind.Fixed f) e = absurd (cc)
kind_name (kind.Operator o) e = absurd (cc)

pub kind_number : (k : Kind) (w : ℕ) → number_of k ≡ Some w → k ≡ kind.Number w
kind_number kind.Name w e = absurd (cc)
kind_number (kind.Number n) w e = let h : n ≡ w = cc in ap kind.Number h
kind_number kind.Inv w e = absurd (cc)
kind_number kind.Not w e = absurd (cc)
kind_number kind.Forbidden w e = absurd (cc)
kind_number kind.End w e = absurd (cc)
kind_number (kind.Fixed f) w e = absurd (cc)
kind_number (kind.Operator o) w e = absurd (cc)

pub kind_minus : (k : Kind) → is_minus k ≡ true → k ≡ kind.Operator bin.Sub
kind_minus kind.Name e = absurd (cc)
kind_minus (kind.Number n) e = absurd (cc)
kind_minus kind.Inv e = absurd (cc)
kind_minus kind.Not e = absurd (cc)
kind_minus kind.Forbidden e = absurd (cc)
kind_minus kind.End e = absurd (cc)
kind_minus (kind.Fixed f) e = absurd (cc)
kind_minus (kind.Operator bin.Mul) e = absurd (cc)
kind_minus (kind.Operator bin.Div) e = absurd (cc)
kind_minus (kind.Operator bin.Rem) e = absurd (cc)
kind_minus (kind.Operator bin.Add) e = absurd (cc)
kind_minus (kind.Operator bin.Sub) e = refl
kind_minus (kind.Operator bin.Shl) e = absurd (cc)
kind_minus (kind.Operator bin.Shr) e = absurd (cc)
kind_minus (kind.Operator bin.Lt) e = absurd (cc)
kind_minus (kind.Operator bin.Le) e = absurd (cc)
kind_minus (kind.Operator bin.Gt) e = absurd (cc)
kind_minus (kind.Operator bin.Ge) e = absurd (cc)
kind_minus (kind.Operator bin.Eq) e = absurd (cc)
kind_minus (kind.Operator bin.Ne) e = absurd (cc)
kind_minus (kind.Operator bin.BitAnd) e = absurd (cc)
kind_minus (kind.Operator bin.BitXor) e = absurd (cc)
kind_minus (kind.Operator bin.BitOr) e = absurd (cc)
kind_minus (kind.Operator bin.And) e = absurd (cc)
kind_minus (kind.Operator bin.Or) e = absurd (cc)

pub kind_unary : (k : Kind) (u : UnOp) → unary_of k ≡ Some u → k ≡ un_kind u
kind_unary kind.Name u e = absurd (cc)
kind_unary (kind.Number n) u e = absurd (cc)
kind_unary kind.Inv u e = let h : un.Inv ≡ u = cc in ap un_kind h
kind_unary kind.Not u e = let h : un.Not ≡ u = cc in ap un_kind h
kind_unary kind.Forbidden u e = absurd (cc)
kind_unary kind.End u e = absurd (cc)
kind_unary (kind.Fixed f) u e = absurd (cc)
kind_unary (kind.Operator bin.Mul) u e = absurd (cc)
kind_unary (kind.Operator bin.Div) u e = absurd (cc)
kind_unary (kind.Operator bin.Rem) u e = absurd (cc)
kind_unary (kind.Operator bin.Add) u e = absurd (cc)
kind_unary (kind.Operator bin.Sub) u e = let h : un.Neg ≡ u = cc in ap un_kind h
kind_unary (kind.Operator bin.Shl) u e = absurd (cc)
kind_unary (kind.Operator bin.Shr) u e = absurd (cc)
kind_unary (kind.Operator bin.Lt) u e = absurd (cc)
kind_unary (kind.Operator bin.Le) u e = absurd (cc)
kind_unary (kind.Operator bin.Gt) u e = absurd (cc)
kind_unary (kind.Operator bin.Ge) u e = absurd (cc)
kind_unary (kind.Operator bin.Eq) u e = absurd (cc)
kind_unary (kind.Operator bin.Ne) u e = absurd (cc)
kind_unary (kind.Operator bin.BitAnd) u e = absurd (cc)
kind_unary (kind.Operator bin.BitXor) u e = absurd (cc)
kind_unary (kind.Operator bin.BitOr) u e = absurd (cc)
kind_unary (kind.Operator bin.And) u e = absurd (cc)
kind_unary (kind.Operator bin.Or) u e = absurd (cc)

pub kind_operator : (j : ℕ) (k : Kind) (p : BinOp) → operator_of j k ≡ Some p → (k ≡ kind.Operator p) × (rank_of p ≡ j)
kind_operator j kind.Name p e = absurd (cc)
kind_operator j (kind.Number n) p e = absurd (cc)
kind_operator j kind.Inv p e = absurd (cc)
kind_operator j kind.Not p e = absurd (cc)
kind_operator j kind.Forbidden p e = absurd (cc)
kind_operator j kind.End p e = absurd (cc)
kind_operator j (kind.Fixed f) p e = absurd (cc)
kind_operator j (kind.Operator o) p e = by_case (nat_eq (rank_of o) j) refl e
  where
    by_case : (b : Bool) → nat_eq (rank_of o) j ≡ b → (if b then Some o else None) ≡ Some p → (kind.Operator o ≡ kind.Operator p) × (rank_of p ≡ j)
    by_case true q e = let h : o ≡ p = cc in (ap kind.Operator h, ap rank_of (sym h) ∙ eqb-true (rank_of o) j q)
    by_case false q e = absurd (cc)

pub begin_paren : (k : Kind) → begin_of k ≡ begin.Paren → k ≡ kind.Fixed fixed.OpenParen
begin_paren kind.Name e = absurd (cc)
begin_paren (kind.Number n) e = absurd (cc)
begin_paren kind.Inv e = absurd (cc)
begin_paren kind.Not e = absurd (cc)
begin_paren kind.Forbidden e = absurd (cc)
begin_paren kind.End e = absurd (cc)
begin_paren (kind.Fixed fixed.Struct) e = absurd (cc)
begin_paren (kind.Fixed fixed.Int) e = absurd (cc)
begin_paren (kind.Fixed fixed.Void) e = absurd (cc)
begin_paren (kind.Fixed fixed.If) e = absurd (cc)
begin_paren (kind.Fixed fixed.Else) e = absurd (cc)
begin_paren (kind.Fixed fixed.Define) e = absurd (cc)
begin_paren (kind.Fixed fixed.Assign) e = absurd (cc)
begin_paren (kind.Fixed fixed.Question) e = absurd (cc)
begin_paren (kind.Fixed fixed.Colon) e = absurd (cc)
begin_paren (kind.Fixed fixed.Semi) e = absurd (cc)
begin_paren (kind.Fixed fixed.Comma) e = absurd (cc)
begin_paren (kind.Fixed fixed.Dot) e = absurd (cc)
begin_paren (kind.Fixed fixed.OpenParen) e = refl
begin_paren (kind.Fixed fixed.CloseParen) e = absurd (cc)
begin_paren (kind.Fixed fixed.OpenBracket) e = absurd (cc)
begin_paren (kind.Fixed fixed.CloseBracket) e = absurd (cc)
begin_paren (kind.Fixed fixed.OpenBrace) e = absurd (cc)
begin_paren (kind.Fixed fixed.CloseBrace) e = absurd (cc)
begin_paren (kind.Fixed fixed.Hash) e = absurd (cc)
begin_paren (kind.Operator o) e = absurd (cc)

pub begin_number : (k : Kind) (w : ℕ) → begin_of k ≡ begin.Number w → k ≡ kind.Number w
begin_number kind.Name w e = absurd (cc)
begin_number (kind.Number n) w e = let h : n ≡ w = cc in ap kind.Number h
begin_number kind.Inv w e = absurd (cc)
begin_number kind.Not w e = absurd (cc)
begin_number kind.Forbidden w e = absurd (cc)
begin_number kind.End w e = absurd (cc)
begin_number (kind.Fixed fixed.Struct) w e = absurd (cc)
begin_number (kind.Fixed fixed.Int) w e = absurd (cc)
begin_number (kind.Fixed fixed.Void) w e = absurd (cc)
begin_number (kind.Fixed fixed.If) w e = absurd (cc)
begin_number (kind.Fixed fixed.Else) w e = absurd (cc)
begin_number (kind.Fixed fixed.Define) w e = absurd (cc)
begin_number (kind.Fixed fixed.Assign) w e = absurd (cc)
begin_number (kind.Fixed fixed.Question) w e = absurd (cc)
begin_number (kind.Fixed fixed.Colon) w e = absurd (cc)
begin_number (kind.Fixed fixed.Semi) w e = absurd (cc)
begin_number (kind.Fixed fixed.Comma) w e = absurd (cc)
begin_number (kind.Fixed fixed.Dot) w e = absurd (cc)
begin_number (kind.Fixed fixed.OpenParen) w e = absurd (cc)
begin_number (kind.Fixed fixed.CloseParen) w e = absurd (cc)
begin_number (kind.Fixed fixed.OpenBracket) w e = absurd (cc)
begin_number (kind.Fixed fixed.CloseBracket) w e = absurd (cc)
begin_number (kind.Fixed fixed.OpenBrace) w e = absurd (cc)
begin_number (kind.Fixed fixed.CloseBrace) w e = absurd (cc)
begin_number (kind.Fixed fixed.Hash) w e = absurd (cc)
begin_number (kind.Operator o) w e = absurd (cc)

pub begin_name : (k : Kind) → begin_of k ≡ begin.Name → k ≡ kind.Name
begin_name kind.Name e = refl
begin_name (kind.Number n) e = absurd (cc)
begin_name kind.Inv e = absurd (cc)
begin_name kind.Not e = absurd (cc)
begin_name kind.Forbidden e = absurd (cc)
begin_name kind.End e = absurd (cc)
begin_name (kind.Fixed fixed.Struct) e = absurd (cc)
begin_name (kind.Fixed fixed.Int) e = absurd (cc)
begin_name (kind.Fixed fixed.Void) e = absurd (cc)
begin_name (kind.Fixed fixed.If) e = absurd (cc)
begin_name (kind.Fixed fixed.Else) e = absurd (cc)
begin_name (kind.Fixed fixed.Define) e = absurd (cc)
begin_name (kind.Fixed fixed.Assign) e = absurd (cc)
begin_name (kind.Fixed fixed.Question) e = absurd (cc)
begin_name (kind.Fixed fixed.Colon) e = absurd (cc)
begin_name (kind.Fixed fixed.Semi) e = absurd (cc)
begin_name (kind.Fixed fixed.Comma) e = absurd (cc)
begin_name (kind.Fixed fixed.Dot) e = absurd (cc)
begin_name (kind.Fixed fixed.OpenParen) e = absurd (cc)
begin_name (kind.Fixed fixed.CloseParen) e = absurd (cc)
begin_name (kind.Fixed fixed.OpenBracket) e = absurd (cc)
begin_name (kind.Fixed fixed.CloseBracket) e = absurd (cc)
begin_name (kind.Fixed fixed.OpenBrace) e = absurd (cc)
begin_name (kind.Fixed fixed.CloseBrace) e = absurd (cc)
begin_name (kind.Fixed fixed.Hash) e = absurd (cc)
begin_name (kind.Operator o) e = absurd (cc)

pub suffix_dot : (k : Kind) → suffix_of k ≡ suffix.Dot → k ≡ kind.Fixed fixed.Dot
suffix_dot kind.Name e = absurd (cc)
suffix_dot (kind.Number n) e = absurd (cc)
suffix_dot kind.Inv e = absurd (cc)
suffix_dot kind.Not e = absurd (cc)
suffix_dot kind.Forbidden e = absurd (cc)
suffix_dot kind.End e = absurd (cc)
suffix_dot (kind.Fixed fixed.Struct) e = absurd (cc)
suffix_dot (kind.Fixed fixed.Int) e = absurd (cc)
suffix_dot (kind.Fixed fixed.Void) e = absurd (cc)
suffix_dot (kind.Fixed fixed.If) e = absurd (cc)
suffix_dot (kind.Fixed fixed.Else) e = absurd (cc)
suffix_dot (kind.Fixed fixed.Define) e = absurd (cc)
suffix_dot (kind.Fixed fixed.Assign) e = absurd (cc)
suffix_dot (kind.Fixed fixed.Question) e = absurd (cc)
suffix_dot (kind.Fixed fixed.Colon) e = absurd (cc)
suffix_dot (kind.Fixed fixed.Semi) e = absurd (cc)
suffix_dot (kind.Fixed fixed.Comma) e = absurd (cc)
suffix_dot (kind.Fixed fixed.Dot) e = refl
suffix_dot (kind.Fixed fixed.OpenParen) e = absurd (cc)
suffix_dot (kind.Fixed fixed.CloseParen) e = absurd (cc)
suffix_dot (kind.Fixed fixed.OpenBracket) e = absurd (cc)
suffix_dot (kind.Fixed fixed.CloseBracket) e = absurd (cc)
suffix_dot (kind.Fixed fixed.OpenBrace) e = absurd (cc)
suffix_dot (kind.Fixed fixed.CloseBrace) e = absurd (cc)
suffix_dot (kind.Fixed fixed.Hash) e = absurd (cc)
suffix_dot (kind.Operator o) e = absurd (cc)

pub suffix_bracket : (k : Kind) → suffix_of k ≡ suffix.Bracket → k ≡ kind.Fixed fixed.OpenBracket
suffix_bracket kind.Name e = absurd (cc)
suffix_bracket (kind.Number n) e = absurd (cc)
suffix_bracket kind.Inv e = absurd (cc)
suffix_bracket kind.Not e = absurd (cc)
suffix_bracket kind.Forbidden e = absurd (cc)
suffix_bracket kind.End e = absurd (cc)
suffix_bracket (kind.Fixed fixed.Struct) e = absurd (cc)
suffix_bracket (kind.Fixed fixed.Int) e = absurd (cc)
suffix_bracket (kind.Fixed fixed.Void) e = absurd (cc)
suffix_bracket (kind.Fixed fixed.If) e = absurd (cc)
suffix_bracket (kind.Fixed fixed.Else) e = absurd (cc)
suffix_bracket (kind.Fixed fixed.Define) e = absurd (cc)
suffix_bracket (kind.Fixed fixed.Assign) e = absurd (cc)
suffix_bracket (kind.Fixed fixed.Question) e = absurd (cc)
suffix_bracket (kind.Fixed fixed.Colon) e = absurd (cc)
suffix_bracket (kind.Fixed fixed.Semi) e = absurd (cc)
suffix_bracket (kind.Fixed fixed.Comma) e = absurd (cc)
suffix_bracket (kind.Fixed fixed.Dot) e = absurd (cc)
suffix_bracket (kind.Fixed fixed.OpenParen) e = absurd (cc)
suffix_bracket (kind.Fixed fixed.CloseParen) e = absurd (cc)
suffix_bracket (kind.Fixed fixed.OpenBracket) e = refl
suffix_bracket (kind.Fixed fixed.CloseBracket) e = absurd (cc)
suffix_bracket (kind.Fixed fixed.OpenBrace) e = absurd (cc)
suffix_bracket (kind.Fixed fixed.CloseBrace) e = absurd (cc)
suffix_bracket (kind.Fixed fixed.Hash) e = absurd (cc)
suffix_bracket (kind.Operator o) e = absurd (cc)

pub suffix_paren : (k : Kind) → suffix_of k ≡ suffix.Paren → k ≡ kind.Fixed fixed.OpenParen
suffix_paren kind.Name e = absurd (cc)
suffix_paren (kind.Number n) e = absurd (cc)
suffix_paren kind.Inv e = absurd (cc)
suffix_paren kind.Not e = absurd (cc)
suffix_paren kind.Forbidden e = absurd (cc)
suffix_paren kind.End e = absurd (cc)
suffix_paren (kind.Fixed fixed.Struct) e = absurd (cc)
suffix_paren (kind.Fixed fixed.Int) e = absurd (cc)
suffix_paren (kind.Fixed fixed.Void) e = absurd (cc)
suffix_paren (kind.Fixed fixed.If) e = absurd (cc)
suffix_paren (kind.Fixed fixed.Else) e = absurd (cc)
suffix_paren (kind.Fixed fixed.Define) e = absurd (cc)
suffix_paren (kind.Fixed fixed.Assign) e = absurd (cc)
suffix_paren (kind.Fixed fixed.Question) e = absurd (cc)
suffix_paren (kind.Fixed fixed.Colon) e = absurd (cc)
suffix_paren (kind.Fixed fixed.Semi) e = absurd (cc)
suffix_paren (kind.Fixed fixed.Comma) e = absurd (cc)
suffix_paren (kind.Fixed fixed.Dot) e = absurd (cc)
suffix_paren (kind.Fixed fixed.OpenParen) e = refl
suffix_paren (kind.Fixed fixed.CloseParen) e = absurd (cc)
suffix_paren (kind.Fixed fixed.OpenBracket) e = absurd (cc)
suffix_paren (kind.Fixed fixed.CloseBracket) e = absurd (cc)
suffix_paren (kind.Fixed fixed.OpenBrace) e = absurd (cc)
suffix_paren (kind.Fixed fixed.CloseBrace) e = absurd (cc)
suffix_paren (kind.Fixed fixed.Hash) e = absurd (cc)
suffix_paren (kind.Operator o) e = absurd (cc)

pub lead_block : (k : Kind) → lead_of k ≡ lead.Block → k ≡ kind.Fixed fixed.OpenBrace
lead_block kind.Name e = absurd (cc)
lead_block (kind.Number n) e = absurd (cc)
lead_block kind.Inv e = absurd (cc)
lead_block kind.Not e = absurd (cc)
lead_block kind.Forbidden e = absurd (cc)
lead_block kind.End e = absurd (cc)
lead_block (kind.Fixed fixed.Struct) e = absurd (cc)
lead_block (kind.Fixed fixed.Int) e = absurd (cc)
lead_block (kind.Fixed fixed.Void) e = absurd (cc)
lead_block (kind.Fixed fixed.If) e = absurd (cc)
lead_block (kind.Fixed fixed.Else) e = absurd (cc)
lead_block (kind.Fixed fixed.Define) e = absurd (cc)
lead_block (kind.Fixed fixed.Assign) e = absurd (cc)
lead_block (kind.Fixed fixed.Question) e = absurd (cc)
lead_block (kind.Fixed fixed.Colon) e = absurd (cc)
lead_block (kind.Fixed fixed.Semi) e = absurd (cc)
lead_block (kind.Fixed fixed.Comma) e = absurd (cc)
lead_block (kind.Fixed fixed.Dot) e = absurd (cc)
lead_block (kind.Fixed fixed.OpenParen) e = absurd (cc)
lead_block (kind.Fixed fixed.CloseParen) e = absurd (cc)
lead_block (kind.Fixed fixed.OpenBracket) e = absurd (cc)
lead_block (kind.Fixed fixed.CloseBracket) e = absurd (cc)
lead_block (kind.Fixed fixed.OpenBrace) e = refl
lead_block (kind.Fixed fixed.CloseBrace) e = absurd (cc)
lead_block (kind.Fixed fixed.Hash) e = absurd (cc)
lead_block (kind.Operator o) e = absurd (cc)

pub lead_if : (k : Kind) → lead_of k ≡ lead.If → k ≡ kind.Fixed fixed.If
lead_if kind.Name e = absurd (cc)
lead_if (kind.Number n) e = absurd (cc)
lead_if kind.Inv e = absurd (cc)
lead_if kind.Not e = absurd (cc)
lead_if kind.Forbidden e = absurd (cc)
lead_if kind.End e = absurd (cc)
lead_if (kind.Fixed fixed.Struct) e = absurd (cc)
lead_if (kind.Fixed fixed.Int) e = absurd (cc)
lead_if (kind.Fixed fixed.Void) e = absurd (cc)
lead_if (kind.Fixed fixed.If) e = refl
lead_if (kind.Fixed fixed.Else) e = absurd (cc)
lead_if (kind.Fixed fixed.Define) e = absurd (cc)
lead_if (kind.Fixed fixed.Assign) e = absurd (cc)
lead_if (kind.Fixed fixed.Question) e = absurd (cc)
lead_if (kind.Fixed fixed.Colon) e = absurd (cc)
lead_if (kind.Fixed fixed.Semi) e = absurd (cc)
lead_if (kind.Fixed fixed.Comma) e = absurd (cc)
lead_if (kind.Fixed fixed.Dot) e = absurd (cc)
lead_if (kind.Fixed fixed.OpenParen) e = absurd (cc)
lead_if (kind.Fixed fixed.CloseParen) e = absurd (cc)
lead_if (kind.Fixed fixed.OpenBracket) e = absurd (cc)
lead_if (kind.Fixed fixed.CloseBracket) e = absurd (cc)
lead_if (kind.Fixed fixed.OpenBrace) e = absurd (cc)
lead_if (kind.Fixed fixed.CloseBrace) e = absurd (cc)
lead_if (kind.Fixed fixed.Hash) e = absurd (cc)
lead_if (kind.Operator o) e = absurd (cc)

pub lead_assign : (k : Kind) → lead_of k ≡ lead.Assign → k ≡ kind.Name
lead_assign kind.Name e = refl
lead_assign (kind.Number n) e = absurd (cc)
lead_assign kind.Inv e = absurd (cc)
lead_assign kind.Not e = absurd (cc)
lead_assign kind.Forbidden e = absurd (cc)
lead_assign kind.End e = absurd (cc)
lead_assign (kind.Fixed fixed.Struct) e = absurd (cc)
lead_assign (kind.Fixed fixed.Int) e = absurd (cc)
lead_assign (kind.Fixed fixed.Void) e = absurd (cc)
lead_assign (kind.Fixed fixed.If) e = absurd (cc)
lead_assign (kind.Fixed fixed.Else) e = absurd (cc)
lead_assign (kind.Fixed fixed.Define) e = absurd (cc)
lead_assign (kind.Fixed fixed.Assign) e = absurd (cc)
lead_assign (kind.Fixed fixed.Question) e = absurd (cc)
lead_assign (kind.Fixed fixed.Colon) e = absurd (cc)
lead_assign (kind.Fixed fixed.Semi) e = absurd (cc)
lead_assign (kind.Fixed fixed.Comma) e = absurd (cc)
lead_assign (kind.Fixed fixed.Dot) e = absurd (cc)
lead_assign (kind.Fixed fixed.OpenParen) e = absurd (cc)
lead_assign (kind.Fixed fixed.CloseParen) e = absurd (cc)
lead_assign (kind.Fixed fixed.OpenBracket) e = absurd (cc)
lead_assign (kind.Fixed fixed.CloseBracket) e = absurd (cc)
lead_assign (kind.Fixed fixed.OpenBrace) e = absurd (cc)
lead_assign (kind.Fixed fixed.CloseBrace) e = absurd (cc)
lead_assign (kind.Fixed fixed.Hash) e = absurd (cc)
lead_assign (kind.Operator o) e = absurd (cc)

pub declared_define : (k : Kind) → declared_of k ≡ declared.Define → k ≡ kind.Fixed fixed.Hash
declared_define kind.Name e = absurd (cc)
declared_define (kind.Number n) e = absurd (cc)
declared_define kind.Inv e = absurd (cc)
declared_define kind.Not e = absurd (cc)
declared_define kind.Forbidden e = absurd (cc)
declared_define kind.End e = absurd (cc)
declared_define (kind.Fixed fixed.Struct) e = absurd (cc)
declared_define (kind.Fixed fixed.Int) e = absurd (cc)
declared_define (kind.Fixed fixed.Void) e = absurd (cc)
declared_define (kind.Fixed fixed.If) e = absurd (cc)
declared_define (kind.Fixed fixed.Else) e = absurd (cc)
declared_define (kind.Fixed fixed.Define) e = absurd (cc)
declared_define (kind.Fixed fixed.Assign) e = absurd (cc)
declared_define (kind.Fixed fixed.Question) e = absurd (cc)
declared_define (kind.Fixed fixed.Colon) e = absurd (cc)
declared_define (kind.Fixed fixed.Semi) e = absurd (cc)
declared_define (kind.Fixed fixed.Comma) e = absurd (cc)
declared_define (kind.Fixed fixed.Dot) e = absurd (cc)
declared_define (kind.Fixed fixed.OpenParen) e = absurd (cc)
declared_define (kind.Fixed fixed.CloseParen) e = absurd (cc)
declared_define (kind.Fixed fixed.OpenBracket) e = absurd (cc)
declared_define (kind.Fixed fixed.CloseBracket) e = absurd (cc)
declared_define (kind.Fixed fixed.OpenBrace) e = absurd (cc)
declared_define (kind.Fixed fixed.CloseBrace) e = absurd (cc)
declared_define (kind.Fixed fixed.Hash) e = refl
declared_define (kind.Operator o) e = absurd (cc)

pub declared_global : (k : Kind) → declared_of k ≡ declared.Global → k ≡ kind.Fixed fixed.Int
declared_global kind.Name e = absurd (cc)
declared_global (kind.Number n) e = absurd (cc)
declared_global kind.Inv e = absurd (cc)
declared_global kind.Not e = absurd (cc)
declared_global kind.Forbidden e = absurd (cc)
declared_global kind.End e = absurd (cc)
declared_global (kind.Fixed fixed.Struct) e = absurd (cc)
declared_global (kind.Fixed fixed.Int) e = refl
declared_global (kind.Fixed fixed.Void) e = absurd (cc)
declared_global (kind.Fixed fixed.If) e = absurd (cc)
declared_global (kind.Fixed fixed.Else) e = absurd (cc)
declared_global (kind.Fixed fixed.Define) e = absurd (cc)
declared_global (kind.Fixed fixed.Assign) e = absurd (cc)
declared_global (kind.Fixed fixed.Question) e = absurd (cc)
declared_global (kind.Fixed fixed.Colon) e = absurd (cc)
declared_global (kind.Fixed fixed.Semi) e = absurd (cc)
declared_global (kind.Fixed fixed.Comma) e = absurd (cc)
declared_global (kind.Fixed fixed.Dot) e = absurd (cc)
declared_global (kind.Fixed fixed.OpenParen) e = absurd (cc)
declared_global (kind.Fixed fixed.CloseParen) e = absurd (cc)
declared_global (kind.Fixed fixed.OpenBracket) e = absurd (cc)
declared_global (kind.Fixed fixed.CloseBracket) e = absurd (cc)
declared_global (kind.Fixed fixed.OpenBrace) e = absurd (cc)
declared_global (kind.Fixed fixed.CloseBrace) e = absurd (cc)
declared_global (kind.Fixed fixed.Hash) e = absurd (cc)
declared_global (kind.Operator o) e = absurd (cc)
