-- What the reader finds is spelt in front of it: `Ok P step` says that P holds of what was found, if anything was.
-- Assumes nothing.
use Prim.Native.Nat.{ℕ, zero, suc}
use Rattle.std.specs.Prelude.{◌≡◌, refl, Bool, true, false, length}
use Rattle.std.proofs.Math.Path.{sym, ap}
use Rattle.std.proofs.Common.{◌∙◌, subst}
use mathlib.Core.List.{List, [], ◌∷◌, ◌++◌, append_assoc, append-nil}
use Rattle.base.specs.paper.Lists.{Every, flat}
use Rattle.base.specs.Lists.{every_none, every_more, here}
use Rattle.spelling.specs.paper.Words.{Word, same, abd, naf, close, comma, semicolon, dot, neck, arrow, query, true_word, false_word, is_name}
use Rattle.spelling.specs.paper.Document.{Atom, Literal, clause, Document, of_atom, of_literal, joined, or_word, of_literals, of_side, of_ways, of_body, of_statement, of_document, AtomFine, LiteralsFine, NonEmpty, WayFine, StatementFine, Fine}
use Rattle.spelling.specs.WordLaws.{same_true}
use Rattle.spelling.specs.Reader.{Step, found, nothing, Walk, after, give, never, turn, next, the, named, name, literal_of, atom, literal, separated, literals, side, ways, from_head, from_side, statement, goal_line, document, Parsed, reads, unreadable, over, parse_words}

pub data Ok {A : Type 0} (P : A → List Word → Type 0) : Step A → Type 0 where
  ok : {x : A} {rest : List Word} → P x rest → Ok P (found x rest)
  none : Ok P nothing

-- x stands in front of the rest, and is fine
abbrev pub Front : {A : Type 0} → (A → List Word) → (A → Type 0) → List Word → A → List Word → Type 0
Front spell F ws x rest = (ws ≡ spell x ++ rest) × F x

pub ok_after : {A B : Type 0} {Q : A → List Word → Type 0} {P : B → List Word → Type 0} (st : Step A) (k : A → Walk B)
    → Ok Q st → ((x : A) (ws : List Word) → Q x ws → Ok P (k x ws)) → Ok P (after st k)
ok_after st k (ok {x = x} {rest = ws} q) h = h x ws q
ok_after st k none h = none

pub ok_next : {A : Type 0} {P : A → List Word → Type 0} (v : Word) (w u : Walk A) (ws : List Word)
    → ((us : List Word) → ws ≡ v ∷ us → Ok P (w us)) → Ok P (u ws) → Ok P (next v w u ws)
unfolding next
ok_next v w u [] f g = g
ok_next {P = P} v w u (x ∷ ws) f g = go (same x v) refl
  where
    go : (t : Bool) → same x v ≡ t → Ok P (turn t w u x ws)
    go true e = f ws (ap (λ (y : Word). y ∷ ws) (same_true x v e))
    go false e = g

pub the_ok : (v : Word) (ws : List Word) → Ok (λ _ rest. ws ≡ v ∷ rest) (the v ws)
the_ok v ws = ok_next v (give tt) never ws (λ us e. ok e) none

pub name_ok : (ws : List Word) → Ok (λ n rest. (ws ≡ n ∷ rest) × (is_name n ≡ true)) (name ws)
unfolding name
name_ok [] = none
name_ok (x ∷ ws) = go (is_name x) refl
  where
    go : (t : Bool) → is_name x ≡ t → Ok (λ n rest. (x ∷ ws ≡ n ∷ rest) × (is_name n ≡ true)) (named t x ws)
    go true e = ok (refl, e)
    go false e = none

pub atom_ok : (ws : List Word) → Ok (Front of_atom AtomFine ws) (atom ws)
unfolding atom
atom_ok ws =
    ok_next abd _ _ ws
    (λ us e. ok_after (name us) _ (name_ok us) λ n m p.
    ok_after (the close m) _ (the_ok close m) λ _ r q.
    ok (e ∙ ap (λ (z : List Word). abd ∷ z) (p.0 ∙ ap (λ (z : List Word). n ∷ z) q), p.1))
    (ok_after (name ws) _ (name_ok ws) λ n m p. ok p)

abbrev pub LiteralFine : Literal → Type 0
LiteralFine l = AtomFine l.atom

pub literal_ok : (ws : List Word) → Ok (Front of_literal LiteralFine ws) (literal ws)
unfolding literal
literal_ok ws =
    ok_next naf _ _ ws
    (λ us e. ok_after (atom us) _ (atom_ok us) λ a m p.
    ok_after (the close m) _ (the_ok close m) λ _ r q.
    ok (
      e
          ∙ ap (λ (z : List Word). naf ∷ z)
          (p.0 ∙ ap (λ (z : List Word). of_atom a ++ z) q ∙ sym (append_assoc (of_atom a) (close ∷ []) r)),
      p.1,
    ))
    (ok_after (atom ws) _ (atom_ok ws) λ a m p. ok p)

abbrev pub Fines : {A : Type 0} → (A → Type 0) → List A → Type 0
Fines F xs = NonEmpty xs × Every F xs

module _ {A : Type 0} (s : Word) (item : Walk A) (f : A → List Word) (F : A → Type 0)
    (Item-ok : (ws : List Word) → Ok (Front f F ws) (item ws)) where
  pub separated_ok : (n : ℕ) (ws : List Word) → Ok (Front (joined s f) (Fines F) ws) (separated s item n ws)
  unfolding separated
  separated_ok zero ws = none
  separated_ok (suc n) ws =
      ok_after (item ws) _ (Item-ok ws) λ x m p.
      ok_next s _ _ m
      (λ us e. ok_after (separated s item n us) _ (separated_ok n us) λ xs r q. ok (many x m us xs r p e q))
      (ok (p.0 ∙ ap (λ (z : List Word). z ++ m) (sym (append-nil (f x))), (tt, every_more p.1 (every_none F))))
    where
      many : (x : A) (m us : List Word) (xs : List A) (r : List Word) → Front f F ws x m → m ≡ s ∷ us
          → Front (joined s f) (Fines F) us xs r → Front (joined s f) (Fines F) ws (x ∷ xs) r
      many x m us [] r p e q = absurd q.1.0
      many x m us (y ∷ ys) r p e q = (
        p.0
            ∙ ap (λ (z : List Word). f x ++ z) (e ∙ ap (λ (z : List Word). s ∷ z) q.0)
            ∙ sym (append_assoc (f x) (flat (λ y. s ∷ f y) (y ∷ ys)) r),
        (tt, every_more p.1 q.1.1),
      )

pub literals_ok : (n : ℕ) (ws : List Word) → Ok (Front of_literals (Fines LiteralFine) ws) (literals n ws)
literals_ok n ws = separated_ok comma literal of_literal LiteralFine literal_ok n ws

-- a word for none, or some
module _ {A : Type 0} (v : Word) (w : Walk (List A)) (f : List A → List Word) (F : A → Type 0)
    (some-ok : (ws : List Word) → Ok (Front f (Fines F) ws) (w ws)) where
  pub or_ok : (ws : List Word) → Ok (Front (or_word v f) (Every F) ws) (next v (give []) w ws)
  or_ok ws = ok_next v (give []) w ws (λ us e. ok (e, every_none F)) (go (w ws) (some-ok ws))
    where
      go : (st : Step (List A)) → Ok (Front f (Fines F) ws) st → Ok (Front (or_word v f) (Every F) ws) st
      go st none = none
      go st (ok {x = []} p) = absurd p.1.0
      go st (ok {x = x ∷ xs} p) = ok (p.0, p.1.1)

pub side_ok : (n : ℕ) (ws : List Word) → Ok (Front of_side LiteralsFine ws) (side n ws)
side_ok n ws = or_ok true_word (literals n) of_literals LiteralFine (literals_ok n) ws

pub ways_ok : (n : ℕ) (ws : List Word) → Ok (Front of_ways (Every WayFine) ws) (ways n ws)
ways_ok n ws =
    or_ok false_word (separated semicolon (literals n) n) (joined semicolon of_literals) WayFine
    (separated_ok semicolon (literals n) of_literals WayFine (literals_ok n) n) ws

-- words in front of words
onto : {a b : List Word} (s c d : List Word) → a ≡ s ++ b → b ≡ c ++ d → a ≡ (s ++ c) ++ d
onto s c d p q = p ∙ ap (λ (z : List Word). s ++ z) q ∙ sym (append_assoc s c d)

pub from_head_ok : (n : ℕ) (t : Bool) (a : Atom) (ws m : List Word) → Front of_literal LiteralFine ws (literal_of a t) m
    → Ok (Front of_statement StatementFine ws) (from_head n t a m)
unfolding from_head
from_head_ok n false a ws m p = none
from_head_ok n true a ws m p =
    ok_next dot _ _ m (λ us e. ok (onto (of_atom a) (dot ∷ []) us p.0 e, (p.1, every_none LiteralFine)))
    (ok_after (the neck m) _ (the_ok neck m) λ _ us e.
    ok_after (literals n us) _ (literals_ok n us) λ body k q.
    ok_after (the dot k) _ (the_ok dot k) λ _ r d. ok (last us k body r e q d))
  where
    last : (us k : List Word) (body : List Literal) (r : List Word) → m ≡ neck ∷ us → Front of_literals (Fines LiteralFine) us body k
        → k ≡ dot ∷ r → Front of_statement StatementFine ws (clause a body) r
    last us k [] r e q d = absurd q.1.0
    last us k (l ∷ ls) r e q d =
        (onto (of_atom a) (of_body (l ∷ ls) ++ dot ∷ []) r p.0 (onto (neck ∷ of_literals (l ∷ ls)) (dot ∷ []) r (e ∙ ap (λ (z : List Word). neck ∷ z) q.0) d), (p.1, q.1.1))

pub from_side_ok : (n : ℕ) (ls : List Literal) (ws m : List Word) → Front of_side LiteralsFine ws ls m
    → Ok (Front of_statement StatementFine ws) (from_side n ls m)
unfolding from_side
from_side_ok n [] ws m p = none
from_side_ok n (l ∷ []) ws m p =
    from_head_ok n l.sign l.atom ws m (p.0 ∙ ap (λ (z : List Word). z ++ m) (append-nil (of_literal l)), p.1 l here)
from_side_ok n (l ∷ k ∷ ls) ws m p = none

pub statement_ok : (n : ℕ) (ws : List Word) → Ok (Front of_statement StatementFine ws) (statement n ws)
unfolding statement
statement_ok n ws =
    ok_after (side n ws) _ (side_ok n ws) λ ls m p.
    ok_next arrow _ _ m
    (λ us e. ok_after (ways n us) _ (ways_ok n us) λ to k q.
    ok_after (the dot k) _ (the_ok dot k) λ _ r d.
    ok (onto (of_side ls) (arrow ∷ (of_ways to ++ dot ∷ [])) r p.0 (onto (arrow ∷ of_ways to) (dot ∷ []) r (e ∙ ap (λ (z : List Word). arrow ∷ z) q.0) d), (p.1, q.1)))
    (from_side_ok n ls ws m p)

pub document_ok : (m n : ℕ) (ws : List Word) → Ok (Front of_document Fine ws) (document m n ws)
unfolding document goal_line
document_ok m zero ws = none
document_ok m (suc n) ws =
    ok_next query _ _ ws
    (λ us e. ok_after (goal_line m us) _ (goal us) λ ls r q. ok (e ∙ ap (λ (z : List Word). query ∷ z) q.0, (every_none StatementFine, q.1)))
    (ok_after (statement m ws) _ (statement_ok m ws) λ s k p.
    ok_after (document m n k) _ (document_ok m n k) λ d r q.
    ok (onto (of_statement s) (of_document d) r p.0 q.0 ∙ ap (λ (z : List Word). z ++ r) (sym (append_assoc (of_statement s) (flat of_statement d.statements) (query ∷ (of_side d.goal ++ dot ∷ [])))), (every_more p.1 q.1.0, q.1.1)))
  where
    goal : (us : List Word) → Ok (Front (λ (ls : List Literal). of_side ls ++ dot ∷ []) LiteralsFine us) (goal_line m us)
    goal us =
        ok_after (side m us) _ (side_ok m us) λ ls k p.
        ok_after (the dot k) _ (the_ok dot k) λ _ r d. ok (onto (of_side ls) (dot ∷ []) r p.0 d, p.1)

-- what the reader reads is spelt by the words
pub parse_sound : (ws : List Word) (d : Document) → parse_words ws ≡ reads d → (ws ≡ of_document d) × Fine d
parse_sound ws d e = go (document (length ws) (length ws) ws) (document_ok (length ws) (length ws) ws) e
  where
    is_read : Parsed → Type 0
    is_read unreadable = ⊥
    is_read (reads d) = Unit {0}

    go : (st : Step Document) → Ok (Front of_document Fine ws) st → over st ≡ reads d → (ws ≡ of_document d) × Fine d
    go st none e = absurd (subst is_read (sym e) tt)
    go st (ok {x = c} {rest = x ∷ us} p) e = absurd (subst is_read (sym e) tt)
    go st (ok {x = c} {rest = []} p) e =
        let is : c ≡ d = cc in
        subst (λ (z : Document). (ws ≡ of_document z) × Fine z) is (p.0 ∙ append-nil (of_document c), p.1)
