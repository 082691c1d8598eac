-- What writing the work area leaves: numbers that stay, lists of literals, and chains of ways within a part of it.
-- Assumes nothing.
use Prim.Native.Nat.{ℕ, zero, suc, ◌+◌, ◌-◌, ◌*◌, ◌/◌, ◌%◌, min, ◌≤◌, ◌<◌}
use native.Mathlib.Omega.{arith}
use Rattle.std.specs.Prelude.{◌≡◌, refl, Bool, true, false, ◌⊎◌, eqb, ltb, get_or, drop}
use Rattle.std.proofs.Common.{sym, ap, ap₂, ◌∙◌, inl, inr, ⊎_elim, eqb-true, lt-ltb, le-ltb, length-set, length-drop, length-append, drop-cons, get_or-drop, get_or-set_same, get_or-set_other, ext_get_or, get_or-append-add}
use Rattle.std.proofs.Math.Path.{subst}
use mathlib.Core.List.{List, [], ◌∷◌, ◌++◌, append_assoc}
use Rattle.std.proofs.lemmas.Bool.{eqb-false}
use Rattle.std.specs.Int.Bits.{bit_and, bit_xor, and_step, and_zero_r, xor_add_and}
use Rattle.std.proofs.Math.ListN.{length, set, get_or-append}
use Rattle.std.proofs.lemmas.List.{length-replicate, replicate-append-replicate, get_or-replicate, set_at}
use Rattle.base.specs.paper.Bools.{choose}
use Rattle.base.specs.Bools.{decide}
use Rattle.base.specs.paper.Lists.{Every, flat}
use Rattle.base.specs.Lists.{every_first, every_rest}
use Rattle.image.specs.paper.Book.{Lit}
use Rattle.image.specs.paper.Walk.{field_at}
use Rattle.image.specs.paper.Decode.{lit_of}
use Rattle.image.specs.Spell.{of_lit, of_lits, of_alternative, Stands}
use Rattle.image.specs.StandsLaws.{stands_at, stands_left, stands_right, stands_value, stands_rest, stands_within}
use Rattle.image.specs.paper.Faults.{limits}
use Rattle.image.specs.Finds.{length_lits}
use Rattle.image.specs.Shown.{lits_at, lits_at_lem}
use Rattle.sets.specs.paper.Kept.{zeros}
use Rattle.searching.specs.paper.Rules.{opposite, opposites}
use Rattle.area.specs.Area.{literal_numbers, no_list, places, joins, no_link, ways, way_width, trail, wanted_true, wanted_false, Long}
use Rattle.area.specs.Ground.{Wanting, Listed, Chain, pos, neg}
use Rattle.image.specs.Encode.{longest_image}

-- ---- numbers that stay

-- all numbers stay but those from lo to hi
abbrev pub AllBut : List ℕ → List ℕ → ℕ → ℕ → Type 0
AllBut w v lo hi = (j : ℕ) → (lo ≤ j → j < hi → ⊥) → get_or v j 0 ≡ get_or w j 0

-- the numbers of a work area, by their places
abbrev pub of : List ℕ → ℕ → ℕ
of w j = get_or w j 0

pub set_here : (w : List ℕ) (i a : ℕ) → i < length w → get_or (set w i a) i 0 ≡ a
set_here w i a h = get_or-set_same w i a 0 h

pub set_there : (w : List ℕ) (i a j : ℕ) → (j ≡ i → ⊥) → get_or (set w i a) j 0 ≡ get_or w j 0
set_there w i a j h = get_or-set_other w i j a 0 h

-- two numbers side by side
module _ (work : List ℕ) (place number next : ℕ) where
  pub pair_stays : AllBut work (set (set work place number) (place + 1) next) place (place + 2)
  pair_stays j o =
      set_there (set work place number) (place + 1) next j (λ x. o (omega (arith, x)) (omega (arith, x)))
      ∙ set_there work place number j (λ x. o (omega (arith, x)) (omega (arith, x)))

  pub pair_first : place + 2 ≤ length work → get_or (set (set work place number) (place + 1) next) place 0 ≡ number
  pair_first h = set_there (set work place number) (place + 1) next place (λ x. omega (arith, x)) ∙ set_here work place number (omega arith)

  pub pair_second : place + 2 ≤ length work → get_or (set (set work place number) (place + 1) next) (place + 1) 0 ≡ next
  pair_second h = set_here (set work place number) (place + 1) next (omega (arith, length-set work place number))

  pub pair_length : length (set (set work place number) (place + 1) next) ≡ length work
  pair_length = length-set (set work place number) (place + 1) next ∙ length-set work place number

-- what lies behind stays
pub behind_stays : (w v : List ℕ) (n : ℕ) → length v ≡ length w → ((j : ℕ) → n ≤ j → get_or v j 0 ≡ get_or w j 0) → drop n v ≡ drop n w
behind_stays w v n e h =
    ext_get_or 0 (drop n v) (drop n w) (length-drop n v ∙ ap (λ (k : ℕ). k - n) e ∙ sym (length-drop n w))
    (λ i _. get_or-drop n v i 0 ∙ h (n + i) (omega arith) ∙ sym (get_or-drop n w i 0))

-- ---- zeros in front

pub wiping : (w : List ℕ) (i : ℕ) → i < length w → set (zeros i ++ drop i w) i 0 ≡ zeros (i + 1) ++ drop (i + 1) w
wiping w i h =
    let up : suc i ≡ i + 1 = omega arith in
    ap (λ (l : List ℕ). set (zeros i ++ l) i 0) (drop-cons w i 0 h)
    ∙ set_at (zeros i) (get_or w i 0) (drop (suc i) w) 0 i (length-replicate i 0)
    ∙ sym (append_assoc (zeros i) (0 ∷ []) (drop (suc i) w))
    ∙ ap₂ (λ (l m : List ℕ). l ++ m) (replicate-append-replicate i 1 0) (ap (λ (n : ℕ). drop n w) up)

pub wiped_zero : (w : List ℕ) (n j : ℕ) → j < n → get_or (zeros n ++ drop n w) j 0 ≡ 0
wiped_zero w n j h = get_or-append (zeros n) (drop n w) 0 j (omega (arith, length-replicate {A = ℕ} n 0)) ∙ get_or-replicate n j 0 0 h

pub wiped_length : (w : List ℕ) (n : ℕ) → n ≤ length w → length (zeros n ++ drop n w) ≡ length w
wiped_length w n h = omega (arith, length-append (zeros n) (drop n w), length-replicate {A = ℕ} n 0, length-drop n w)

pub wiped_stays : (w : List ℕ) (n j : ℕ) → n ≤ j → get_or (zeros n ++ drop n w) j 0 ≡ get_or w j 0
wiped_stays w n j h =
    let k : ℕ = j - n in
    let e : length (zeros n) + k ≡ j = omega (arith, length-replicate {A = ℕ} n 0) in
    let f : n + k ≡ j = omega arith in
    ap (λ (i : ℕ). get_or (zeros n ++ drop n w) i 0) (sym e)
    ∙ get_or-append-add (zeros n) (drop n w) k 0
    ∙ get_or-drop n w k 0
    ∙ ap (λ (i : ℕ). get_or w i 0) f

-- ---- the numbers of literals

-- those of the literals of the atoms from..to are written
pub record LiteralsLaid (work : List ℕ) (from to even : ℕ) (after : List ℕ) : Type 0 where
  pub size : length after ≡ length work
  pub stays : AllBut work after (wanted_true from) (wanted_true to)
  pub written : (p : ℕ) → from ≤ p → p < to → Wanting (of after) p even joins

pub literals_start : (work : List ℕ) (from even : ℕ) → LiteralsLaid work from from even work
literals_start work from even = record { size = refl; stays = λ j o. refl; written = λ p a b. absurd (omega arith) }

pub literals_step : (work : List ℕ) (from to even : ℕ) (after : List ℕ) → from ≤ to → to < limits.atoms → Long work → LiteralsLaid work from to even after
    → LiteralsLaid work from (to + 1) even (set (set after (wanted_true to) even) (wanted_false to) joins)
literals_step work from to even after low few long l =
    let at : ℕ = wanted_true to in
    let fits : at + 2 ≤ length after = omega (arith, l.size) in
    record {
      size = pair_length after at even joins ∙ l.size;
      stays = λ j o. pair_stays after at even joins j (λ a b. o (omega arith) (omega arith)) ∙ l.stays j (λ a b. o a (omega arith));
      written = λ p a b. go fits p a b (eqb p to) refl;
    }
  where
    go : wanted_true to + 2 ≤ length after → (p : ℕ) → from ≤ p → p < to + 1 → (t : Bool) → eqb p to ≡ t
        → Wanting (of (set (set after (wanted_true to) even) (wanted_false to) joins)) p even joins
    go fits p a b true e =
        subst (λ (q : ℕ). Wanting (of (set (set after (wanted_true to) even) (wanted_false to) joins)) q even joins) (sym (eqb-true p to e))
        (pair_first after (wanted_true to) even joins fits, pair_second after (wanted_true to) even joins fits)
    go fits p a b false e =
        let d : p ≡ to → ⊥ = eqb-false p to e in
        let less : p < to = omega (arith, d) in
        (pair_stays after (wanted_true to) even joins (wanted_true p) (λ x y. omega arith) ∙ (l.written p a less).0, pair_stays after (wanted_true to) even joins (wanted_false p) (λ x y. omega arith) ∙ (l.written p a less).1)

-- ---- the opposite literal, as the code computes it

parity : (y : ℕ) → (y % 2 ≡ 0) ⊎ (y % 2 ≡ 1)
parity y = ⊎_elim (λ e. inl (eqb-true (y % 2) 0 e)) (λ e. inr (let n = eqb-false (y % 2) 0 e in omega arith)) (decide (eqb (y % 2) 0))

lit_even : (y : ℕ) → y % 2 ≡ 0 → lit_of y ≡ pos (y / 2)
lit_even y e = λ i. record { atom = y / 2; sign = ap (λ (n : ℕ). eqb n 0) e i }

lit_odd : (y : ℕ) → y % 2 ≡ 1 → lit_of y ≡ neg (y / 2)
lit_odd y e = λ i. record { atom = y / 2; sign = ap (λ (n : ℕ). eqb n 0) e i }

module _ (literal : ℕ) where
  last_bit : bit_and literal 1 ≡ min (literal % 2) 1
  last_bit = let low : bit_and (literal / 2) 0 ≡ 0 = and_zero_r (literal / 2) in omega (arith, and_step literal 1, low)

  pub flip_small : literal < literal_numbers → bit_xor literal 1 < literal_numbers
  flip_small h = ⊎_elim (λ e. omega (arith, e, xor_add_and literal 1, last_bit)) (λ e. omega (arith, e, xor_add_and literal 1, last_bit)) (parity literal)

  pub flip_lit : lit_of (bit_xor literal 1) ≡ opposite (lit_of literal)
  flip_lit = ⊎_elim even odd (parity literal)
    where
      even : literal % 2 ≡ 0 → lit_of (bit_xor literal 1) ≡ opposite (lit_of literal)
      even e =
          let up : bit_xor literal 1 ≡ literal + 1 = omega (arith, e, xor_add_and literal 1, last_bit) in
          let o : (literal + 1) % 2 ≡ 1 = omega arith in
          let half : (literal + 1) / 2 ≡ literal / 2 = omega arith in
          ap lit_of up ∙ lit_odd (literal + 1) o ∙ ap neg half ∙ ap opposite (sym (lit_even literal e))

      odd : literal % 2 ≡ 1 → lit_of (bit_xor literal 1) ≡ opposite (lit_of literal)
      odd e =
          let down : bit_xor literal 1 ≡ literal - 1 = omega (arith, e, xor_add_and literal 1, last_bit) in
          let o : (literal - 1) % 2 ≡ 0 = omega arith in
          let half : (literal - 1) / 2 ≡ literal / 2 = omega arith in
          ap lit_of down ∙ lit_even (literal - 1) o ∙ ap pos half ∙ ap opposite (sym (lit_odd literal e))

-- ---- lists

pub listed_same : (image : List ℕ) (tab tab' : ℕ → ℕ) {x : ℕ} {ls : List Lit} → Listed image tab x ls → Listed image tab' x ls
listed_same image tab tab' (Listed.single h) = Listed.single h
listed_same image tab tab' Listed.none = Listed.none
listed_same image tab tab' (Listed.part h n f) = Listed.part h n f

-- "No accepted image is longer than 8,751 bytes" (paper 01, 3.5).
abbrev pub Short : List ℕ → Type 0
Short image = length image ≤ longest_image

-- n literals from this place on, each of a known atom
pub record Literals (image : List ℕ) (from n : ℕ) : Type 0 where
  pub there : from + 2 * n ≤ length image
  pub short : Short image
  pub small : (i : ℕ) → i < n → field_at image (from + 2 * i) < literal_numbers

pub list_none : (image : List ℕ) (tab : ℕ → ℕ) (from n : ℕ) → n ≡ 0 → Listed image tab no_list (lits_at image from n)
unfolding lits_at
list_none image tab from zero e = Listed.none
list_none image tab from (suc n) e = absurd (omega arith)

pub list_one : (image : List ℕ) (tab : ℕ → ℕ) (from n x : ℕ) → n ≡ 1 → x ≡ field_at image from → Literals image from n → Listed image tab x (lits_at image from n)
unfolding lits_at
list_one image tab from zero x e q l = absurd (omega arith)
list_one image tab from (suc zero) x e q l =
    let at : from + 2 * 0 ≡ from = omega arith in
    let low : field_at image from < literal_numbers = subst (λ (k : ℕ). field_at image k < literal_numbers) at (l.small 0 (omega arith)) in
    subst (λ (k : ℕ). Listed image tab k (lit_of (field_at image from) ∷ [])) (sym q) (Listed.single low)
list_one image tab from (suc (suc n)) x e q l = absurd (omega arith)

pub list_part : (image : List ℕ) (tab : ℕ → ℕ) (from n : ℕ) → (n ≡ 0 → ⊥) → (n ≡ 1 → ⊥) → Literals image from n → Listed image tab (from + places * n) (lits_at image from n)
list_part image tab from n p q l = Listed.part {from = from} {n = n} (omega (arith, l.there, l.short)) (omega (arith, p, q)) l.there

-- ---- chains of ways that lie from lo to hi

module _ (image : List ℕ) (tab : ℕ → ℕ) (lo hi : ℕ) where
  pub data Row : ℕ → List (List Lit) → Type 0 where
    stop : Row no_link []
    along : {w : ℕ} {ls : List Lit} {lss : List (List Lit)} → lo ≤ w → w + 1 < hi → Listed image tab (tab w) ls → Row (tab (w + 1)) lss → Row w (ls ∷ lss)

-- they stay where the numbers from lo to hi stay
pub row_same : (image : List ℕ) (tab tab' : ℕ → ℕ) (lo hi lo' hi' : ℕ) → lo' ≤ lo → hi ≤ hi' → ((j : ℕ) → lo ≤ j → j < hi → tab' j ≡ tab j) → {w : ℕ} {lss : List (List Lit)}
    → Row image tab lo hi w lss → Row image tab' lo' hi' w lss
row_same image tab tab' lo hi lo' hi' p q f stop = stop
row_same image tab tab' lo hi lo' hi' p q f (along {w = w} {ls = ls} {lss = lss} a b l r) =
    along {w = w} (omega arith) (omega arith)
    (subst (λ (x : ℕ). Listed image tab' x ls) (sym (f w (omega arith) (omega arith))) (listed_same image tab tab' l))
    (subst (λ (x : ℕ). Row image tab' lo' hi' x lss) (sym (f (w + 1) (omega arith) (omega arith))) (row_same image tab tab' lo hi lo' hi' p q f r))

pub row_chain : (image : List ℕ) (tab : ℕ → ℕ) (lo hi : ℕ) → ways ≤ lo → hi ≤ trail → {w : ℕ} {lss : List (List Lit)} → Row image tab lo hi w lss → Chain image tab w lss
row_chain image tab lo hi p q stop = Chain.end
row_chain image tab lo hi p q (along {w = w} a b l r) = Chain.way {w = w} (omega arith) (omega arith) l (row_chain image tab lo hi p q r)

-- ---- ways of opposites

-- What the laying of n opposites asks: the literals, and place for their ways.
pub record OppositesDue (image work : List ℕ) (start first n : ℕ) : Type 0 where
  pub literals : Literals image first n
  pub room : start + way_width * n ≤ trail
  pub long : Long work

-- Those from i on are laid, before the ways from `next` on.
pub record OppositesLaying (image work : List ℕ) (start first n next : ℕ) (after : List ℕ) (i link : ℕ) : Type 0 where
  pub left : ℕ
  pub sum : i + left ≡ n
  pub size : length after ≡ length work
  pub stays : AllBut work after (start + way_width * i) (start + way_width * n)
  pub row : (hi : ℕ) (lss : List (List Lit)) → start + way_width * n ≤ hi → Row image (of work) (start + way_width * n) hi next lss
      → Row image (of after) (start + way_width * i) hi link (opposites (lits_at image (first + 2 * i) left) ++ lss)

module _ (image work : List ℕ) (start first count next : ℕ) where
  pub opposites_start : OppositesLaying image work start first count next work count next
  unfolding lits_at
  opposites_start = record { left = 0; sum = omega arith; size = refl; stays = λ j o. refl; row = λ hi lss h r. r }

  pub opposites_step : (after : List ℕ) (i link x : ℕ) → OppositesDue image work start first count → 1 ≤ i → OppositesLaying image work start first count next after i link → x ≡ bit_xor (field_at image (first + 2 * (i - 1))) 1
      → OppositesLaying image work start first count next (set (set after (start + way_width * (i - 1)) x) (start + way_width * (i - 1) + 1) link) (i - 1) (start + way_width * (i - 1))
  unfolding lits_at
  opposites_step after i link x g p o e =
      let at : ℕ = start + way_width * (i - 1) in
      let low : i ≤ count = omega (arith, o.sum) in
      let fits : at + 2 ≤ length after = omega (arith, o.size, g.long, g.room) in
      record {
        left = suc o.left;
        sum = omega (arith, o.sum);
        size = pair_length after at x link ∙ o.size;
        stays = λ j q. pair_stays after at x link j (λ a b. q a (omega arith)) ∙ o.stays j (λ a b. q (omega arith) b);
        row =
            λ hi lss h r.
            let up : first + 2 * i ≡ first + 2 * (i - 1) + 2 = omega arith in
            let small : field_at image (first + 2 * (i - 1)) < literal_numbers = g.literals.small (i - 1) (omega arith) in
            let new : List ℕ = set (set after at x) (at + 1) link in
            let tail : Row image (of new) at hi link (opposites (lits_at image (first + 2 * (i - 1) + 2) o.left) ++ lss) =
            subst (λ (k : ℕ). Row image (of new) at hi link (opposites (lits_at image k o.left) ++ lss)) up
            (row_same image (of after) (of new) (start + way_width * i) hi at hi (omega arith) (omega arith) (λ j a b. pair_stays after at x link j (λ c d. omega arith)) (o.row hi lss h r)) in
            let mine : Listed image (of new) x (opposite (lit_of (field_at image (first + 2 * (i - 1)))) ∷ []) =
            subst (λ (l : Lit). Listed image (of new) x (l ∷ [])) (ap lit_of e ∙ flip_lit (field_at image (first + 2 * (i - 1))))
            (Listed.single (subst (λ (k : ℕ). k < literal_numbers) (sym e) (flip_small (field_at image (first + 2 * (i - 1))) small))) in
            along {w = at} (omega arith) (omega arith)
            (subst (λ (k : ℕ). Listed image (of new) k (opposite (lit_of (field_at image (first + 2 * (i - 1)))) ∷ [])) (sym (pair_first after at x link fits)) mine)
            (subst (λ (k : ℕ). Row image (of new) at hi k (opposites (lits_at image (first + 2 * (i - 1) + 2) o.left) ++ lss)) (sym (pair_second after at x link fits)) tail);
      }

  -- all are
  pub record OppositesLaid (after : List ℕ) (link : ℕ) : Type 0 where
    pub size : length after ≡ length work
    pub stays : AllBut work after start (start + way_width * count)
    pub row : (hi : ℕ) (lss : List (List Lit)) → start + way_width * count ≤ hi → Row image (of work) (start + way_width * count) hi next lss
        → Row image (of after) start hi link (opposites (lits_at image first count) ++ lss)

  pub opposites_end : (after : List ℕ) (i link : ℕ) → i ≡ 0 → OppositesLaying image work start first count next after i link → OppositesLaid after link
  opposites_end after i link z o =
      let all : o.left ≡ count = omega (arith, o.sum) in
      let from : start + way_width * i ≡ start = omega arith in
      let first' : first + 2 * i ≡ first = omega arith in
      record {
        size = o.size;
        stays = λ j q. o.stays j (λ a b. q (omega arith) b);
        row =
            λ hi lss h r.
            subst (λ (k : ℕ). Row image (of after) start hi link (opposites (lits_at image first k) ++ lss)) all
            (subst (λ (k : ℕ). Row image (of after) start hi link (opposites (lits_at image k o.left) ++ lss)) first'
            (subst (λ (k : ℕ). Row image (of after) k hi link (opposites (lits_at image (first + 2 * i) o.left) ++ lss)) from (o.row hi lss h r)));
      }

-- ---- ways of alternatives

-- these alternatives stand from `from` to `end`
pub record Alternatives (image : List ℕ) (from end : ℕ) (lss : List (List Lit)) : Type 0 where
  pub stands : Stands image from (flat of_alternative lss)
  pub size : end ≡ from + 2 * length (flat of_alternative lss)
  pub some : Every (λ (ls : List Lit). 1 ≤ length ls) lss
  pub small : Every (λ (ls : List Lit). Every (λ (l : Lit). l.atom < limits.atoms) ls) lss

-- What their laying asks.
pub record AlternativesDue (image work : List ℕ) (start first end : ℕ) : Type 0 where
  pub lists : List (List Lit)
  pub alternatives : Alternatives image first end lists
  pub room : start + way_width * length lists ≤ trail
  pub short : Short image
  pub long : Long work

-- this way where there are alternatives left, else none
abbrev pub link_to : ℕ → ℕ → ℕ → ℕ
link_to way from end = choose (ltb from end) way no_link

-- in the image a literal of a known atom is such a number
pub small_fields : (image : List ℕ) (from : ℕ) (ls : List Lit) → Stands image from (of_lits ls) → Every (λ (l : Lit). l.atom < limits.atoms) ls → (i : ℕ) → i < length ls → field_at image (from + 2 * i) < literal_numbers
small_fields image from [] st a i h = absurd (omega arith)
small_fields image from (l ∷ ls) st a zero h =
    let at : from + 2 * 0 ≡ from = omega arith in
    let low : l.atom < limits.atoms = every_first a in
    subst (λ (k : ℕ). field_at image k < literal_numbers) (sym at) (omega (arith, stands_value st, sign_small l.sign))
  where
    sign_small : (t : Bool) → choose t 0 1 ≤ 1
    sign_small true = omega arith
    sign_small false = omega arith
small_fields image from (l ∷ ls) st a (suc i) h =
    let at : from + 2 + 2 * i ≡ from + 2 * suc i = omega arith in
    subst (λ (k : ℕ). field_at image k < literal_numbers) at (small_fields image (from + 2) ls (stands_rest st) (every_rest a) i (omega arith))

pub lits_fit : (image : List ℕ) (from : ℕ) (ls : List Lit) → Stands image from (of_lits ls) → Short image → from ≤ length image → Every (λ (l : Lit). l.atom < limits.atoms) ls → Literals image from (length ls)
lits_fit image from ls st short low a = record { there = within ls st; short = short; small = small_fields image from ls st a }
  where
    within : (ls : List Lit) → Stands image from (of_lits ls) → from + 2 * length ls ≤ length image
    within [] st = omega arith
    within (l ∷ ls) st = omega (arith, stands_within (of_lit l) (of_lits ls) st, length_lits (l ∷ ls))

-- the first of alternatives
pub record First (image : List ℕ) (from end : ℕ) (ls : List Lit) (lss : List (List Lit)) : Type 0 where
  pub count : field_at image from ≡ length ls
  pub some : 1 ≤ length ls
  pub there : from + 2 + 2 * length ls ≤ length image
  pub literals : Stands image (from + 2) (of_lits ls)
  pub small : Every (λ (l : Lit). l.atom < limits.atoms) ls
  pub later : Alternatives image (from + 2 + 2 * length ls) end lss

pub first_of : (image : List ℕ) (from end : ℕ) (ls : List Lit) (lss : List (List Lit)) → Alternatives image from end (ls ∷ lss) → First image from end ls lss
first_of image from end ls lss a =
    let mine : Stands image from (of_alternative ls) = stands_left (of_alternative ls) (flat of_alternative lss) a.stands in
    let many : length (of_lits ls) ≡ length ls = length_lits ls in
    let sum : length (of_alternative ls ++ flat of_alternative lss) ≡ length (of_alternative ls) + length (flat of_alternative lss) = length-append (of_alternative ls) (flat of_alternative lss) in
    let size : end ≡ from + 2 * length (of_alternative ls ++ flat of_alternative lss) = a.size in
    let next : from + 2 * length (of_alternative ls) ≡ from + 2 + 2 * length ls = omega arith in
    record {
      count = stands_value mine;
      some = every_first a.some;
      there = omega (arith, stands_within (length ls) (of_lits ls) mine);
      literals = stands_rest mine;
      small = every_first a.small;
      later =
          record {
            stands = stands_at next (stands_right (of_alternative ls) a.stands);
            size = omega arith;
            some = every_rest a.some;
            small = every_rest a.small;
          };
    }

-- Ways are laid up to `way`, for the alternatives before `from`.
pub record Rest (image work : List ℕ) (start first end : ℕ) (lss : List (List Lit)) (after : List ℕ) (way from : ℕ) : Type 0 where
  pub left : List (List Lit)
  pub alternatives : Alternatives image from end left
  pub ways : way + way_width * length left ≡ start + way_width * length lss
  pub row : (tab : ℕ → ℕ) (hi : ℕ) → start + way_width * length lss ≤ hi → ((j : ℕ) → start ≤ j → j < way → tab j ≡ get_or after j 0)
      → Row image tab way hi (link_to way from end) left → Row image tab start hi (link_to start first end) lss

pub record AlternativesLaying (image work : List ℕ) (start first end : ℕ) (after : List ℕ) (way from : ℕ) : Type 0 where
  pub size : length after ≡ length work
  pub low : start ≤ way
  pub stays : AllBut work after start way
  pub rest : (lss : List (List Lit)) → Alternatives image first end lss → Rest image work start first end lss after way from

-- All are.
pub record AlternativesLaid (image work : List ℕ) (start first end : ℕ) (after : List ℕ) (way : ℕ) : Type 0 where
  pub size : length after ≡ length work
  pub low : start ≤ way
  pub stays : AllBut work after start way
  pub ways : (lss : List (List Lit)) → Alternatives image first end lss → way ≡ start + way_width * length lss
  pub row : (lss : List (List Lit)) → Alternatives image first end lss → Row image (of after) start way (link_to start first end) lss

module _ (image work : List ℕ) (start first end : ℕ) where
  pub alternatives_start : AlternativesLaying image work start first end work start first
  alternatives_start = record {
    size = refl;
    low = omega arith;
    stays = λ j o. refl;
    rest = λ lss a. record { left = lss; alternatives = a; ways = refl; row = λ tab hi h f r. r };
  }

  -- the alternative that stands at `from` is the next
  pub record AlternativeDue (way from : ℕ) : Type 0 where
    pub there : from + 2 ≤ length image
    pub room : way + way_width ≤ trail
    pub literals : Literals image (from + 2) (field_at image from)
    pub some : 1 ≤ field_at image from
    pub falls : from + 2 + 2 * field_at image from ≤ end

  pub alternative_due : (after : List ℕ) (way from : ℕ) → AlternativesDue image work start first end → AlternativesLaying image work start first end after way from → from < end → AlternativeDue way from
  alternative_due after way from g o h = let r = o.rest g.lists g.alternatives in go r.left r.alternatives r.ways
    where
      go : (left : List (List Lit)) → Alternatives image from end left → way + way_width * length left ≡ start + way_width * length g.lists → AlternativeDue way from
      go [] a e = absurd (omega (arith, a.size))
      go (ls ∷ lss) a e =
          let f = first_of image from end ls lss a in
          let n : field_at image from ≡ length ls = f.count in
          record {
            there = omega (arith, f.there);
            room = omega (arith, g.room);
            literals = subst (Literals image (from + 2)) (sym n) (lits_fit image (from + 2) ls f.literals g.short (omega (arith, f.there)) f.small);
            some = omega (arith, f.some);
            falls = omega (arith, f.later.size);
          }

  pub alternatives_step : (after : List ℕ) (way from x link : ℕ) → AlternativesDue image work start first end → AlternativesLaying image work start first end after way from → from < end
      → Listed image (λ j. 0) x (lits_at image (from + 2) (field_at image from)) → link ≡ link_to (way + way_width) (from + 2 + 2 * field_at image from) end
      → AlternativesLaying image work start first end (set (set after way x) (way + 1) link) (way + way_width) (from + 2 + 2 * field_at image from)
  alternatives_step after way from x link g o h l e =
      let next = alternative_due after way from g o h in
      let fits : way + way_width ≤ length after = omega (arith, o.size, g.long, next.room) in
      let new : List ℕ = set (set after way x) (way + 1) link in
      record {
        size = pair_length after way x link ∙ o.size;
        low = omega (arith, o.low);
        stays = λ j q. pair_stays after way x link j (λ a b. q (omega (arith, o.low)) (omega arith)) ∙ o.stays j (λ a b. q a (omega arith));
        rest = λ lss a. let r = o.rest lss a in go fits lss r r.left r.alternatives r.ways r.row;
      }
    where
      go : way + way_width ≤ length after → (lss : List (List Lit)) → Rest image work start first end lss after way from → (left : List (List Lit)) → Alternatives image from end left
          → way + way_width * length left ≡ start + way_width * length lss
          → ((tab : ℕ → ℕ) (hi : ℕ) → start + way_width * length lss ≤ hi → ((j : ℕ) → start ≤ j → j < way → tab j ≡ get_or after j 0) → Row image tab way hi (link_to way from end) left → Row image tab start hi (link_to start first end) lss)
          → Rest image work start first end lss (set (set after way x) (way + 1) link) (way + way_width) (from + 2 + 2 * field_at image from)
      go fits lss r [] a q row = absurd (omega (arith, a.size))
      go fits lss r (ls ∷ left) a q row =
          let f = first_of image from end ls left a in
          let n : field_at image from ≡ length ls = f.count in
          let at : from + 2 + 2 * length ls ≡ from + 2 + 2 * field_at image from = omega arith in
          let is : lits_at image (from + 2) (field_at image from) ≡ ls = ap (lits_at image (from + 2)) n ∙ lits_at_lem image (from + 2) ls f.literals in
          record {
            left = left;
            alternatives = subst (λ (k : ℕ). Alternatives image k end left) at f.later;
            ways = omega arith;
            row =
                λ tab hi t k z.
                let here : tab way ≡ x = k way (omega (arith, o.low)) (omega arith) ∙ pair_first after way x link fits in
                let there : tab (way + 1) ≡ link_to (way + way_width) (from + 2 + 2 * field_at image from) end = k (way + 1) (omega (arith, o.low)) (omega arith) ∙ pair_second after way x link fits ∙ e in
                row tab hi t (λ j b c. k j b (omega arith) ∙ pair_stays after way x link j (λ y u. omega arith))
                (rw (lt-ltb from end h)
                (along {w = way} (omega arith) (omega arith)
                (subst (λ (m : ℕ). Listed image tab m ls) (sym here) (subst (Listed image tab x) is (listed_same image (λ j. 0) tab l)))
                (subst (λ (m : ℕ). Row image tab way hi m left) (sym there) (row_same image tab tab (way + way_width) hi way hi (omega arith) (omega arith) (λ j b c. refl) z))));
          }

  pub alternatives_end : (after : List ℕ) (way from : ℕ) → AlternativesLaying image work start first end after way from → end ≤ from → AlternativesLaid image work start first end after way
  alternatives_end after way from o h = record {
    size = o.size;
    low = o.low;
    stays = o.stays;
    ways = λ lss a. let r = o.rest lss a in ways lss r.left r.alternatives r.ways;
    row = λ lss a. let r = o.rest lss a in row lss r.left r.alternatives r.ways r.row;
  }
    where
      ways : (lss left : List (List Lit)) → Alternatives image from end left → way + way_width * length left ≡ start + way_width * length lss → way ≡ start + way_width * length lss
      ways lss [] a q = omega arith
      ways lss (ls ∷ left) a q = absurd (omega (arith, (first_of image from end ls left a).later.size))

      row : (lss left : List (List Lit)) → Alternatives image from end left → way + way_width * length left ≡ start + way_width * length lss
          → ((tab : ℕ → ℕ) (hi : ℕ) → start + way_width * length lss ≤ hi → ((j : ℕ) → start ≤ j → j < way → tab j ≡ get_or after j 0) → Row image tab way hi (link_to way from end) left → Row image tab start hi (link_to start first end) lss)
          → Row image (of after) start way (link_to start first end) lss
      row lss [] a q f = f (of after) way (omega arith) (λ j b c. refl) (rw (le-ltb from end h) stop)
      row lss (ls ∷ left) a q f = absurd (omega (arith, (first_of image from end ls left a).later.size))
