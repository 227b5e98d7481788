-- Relative names, as a program reads them from left to right.
use Rattle.std.proofs.Common.{◌≡◌, ◌≢◌, ℕ, ◌<◌, suc, Bool, true, false, ◌&&◌, List, [], ◌∷◌, ◌++◌, length, drop, take_while, Option, Some, None, ℤ, pos, neg_ℤ, codes, refl, sym, ap, ◌∙◌, arith, append_assoc}
use Rattle.std.specs.Prelude.{if◌then◌else◌, nat_eq, nat_lt}
use Rattle.std.specs.List.{starts_with}
use Rattle.std.proofs.Math.Seq.{drop-append_seam}
use Rattle.std.proofs.lemmas.Bool.{false≢true, and_parts, lt-ltb}
use Rattle.texts.specs.Numbers.{is_digit, number_up_to}
use Rattle.records.specs.Limits.{most_distance}
use Rattle.fabric.specs.WireNames.{Distance, none, lower, raise, IsRelative}
use Rattle.fabric.specs.WireOfName.{Moved, behind_number, distance_of, Relative, behind_distances, relative_of}
use Rattle.fabric_laws.proofs.Members.{if_true, if_false}
use Rattle.fabric_laws.proofs.Prefixes.{starts_from, starts_to}
use Rattle.fabric_laws.proofs.Digits.{taken, split, number_digits, has_length}

-- what is read at the front of a name: a distance as it is written
pub record Read (lowers raises name : List ℕ) (m : Moved) : Type 0 where
  pub text : List ℕ
  pub whole : name ≡ text ++ m.rest
  pub distance : Distance lowers raises text m.by

nothing_read : (lowers raises name : List ℕ) → Read lowers raises name (record { by = pos 0; rest = name })
nothing_read lowers raises name = record { text = []; whole = refl; distance = none refl }

-- what a number at the front of a text moves, where there is one
abbrev number_at : (ℕ → ℤ) → List ℕ → List ℕ → List ℕ → Option ℕ → Moved
number_at way name on digits o = elim o [
  | Some n ↦ record { by = way n; rest = drop (length digits) on }
  | None ↦ record { by = pos 0; rest = name }
]

number_read : (lowers raises name letter on : List ℕ) (way : ℕ → ℤ) → name ≡ letter ++ on
    → ((digits : List ℕ) (n : ℕ) → number_up_to most_distance digits ≡ Some n → Distance lowers raises (letter ++ digits) (way n))
    → Read lowers raises name (behind_number way name on)
number_read lowers raises name letter on way whole is = go (number_up_to most_distance (take_while is_digit on)) refl
  where
    go : (o : Option ℕ) → number_up_to most_distance (take_while is_digit on) ≡ o
        → Read lowers raises name (number_at way name on (take_while is_digit on) o)
    go None e = nothing_read lowers raises name
    go (Some n) e = record {
      text = letter ++ take_while is_digit on;
      whole = whole ∙ ap (λ xs. letter ++ xs) (split is_digit on) ∙ sym (append_assoc letter (take_while is_digit on) (drop (length (take_while is_digit on)) on));
      distance = is (take_while is_digit on) n e;
    }

pub read_distance : (lowers raises name : List ℕ) → Read lowers raises name (distance_of lowers raises name)
read_distance lowers raises name = go (starts_with nat_eq name lowers) refl (starts_with nat_eq name raises) refl
  where
    go : (b : Bool) → starts_with nat_eq name lowers ≡ b → (c : Bool) → starts_with nat_eq name raises ≡ c
        → Read lowers raises name (if b then behind_number (λ n. neg_ℤ (pos n)) name (drop (length lowers) name)
        else if c then behind_number (λ n. pos n) name (drop (length raises) name)
        else record { by = pos 0; rest = name })
    go true e c f = number_read lowers raises name lowers (drop (length lowers) name) (λ n. neg_ℤ (pos n)) (starts_from name lowers e) (λ digits n h. lower digits n refl h)
    go false e true f = number_read lowers raises name raises (drop (length raises) name) (λ n. pos n) (starts_from name raises f) (λ digits n h. raise digits n refl h)
    go false e false f = nothing_read lowers raises name

-- a text at which a distance ends: it begins with no digit and with neither letter
record Ends (lowers raises rest : List ℕ) : Type 0 where
  byte : ℕ
  more : List ℕ
  is : rest ≡ byte ∷ more
  no_digit : is_digit byte ≡ false
  not_lowers : starts_with nat_eq rest lowers ≡ false
  not_raises : starts_with nat_eq rest raises ≡ false

behind_is : (way : ℕ → ℤ) (name digits rest : List ℕ) (n byte : ℕ) (more : List ℕ) → rest ≡ byte ∷ more → is_digit byte ≡ false
    → number_up_to most_distance digits ≡ Some n → behind_number way name (digits ++ rest) ≡ record { by = way n; rest = rest }
behind_is way name digits rest n byte more is no_digit h = go (take_while is_digit (digits ++ rest)) digits_taken
  where
    digits_taken : take_while is_digit (digits ++ rest) ≡ digits
    digits_taken = ap (λ r. take_while is_digit (digits ++ r)) is ∙ taken is_digit digits byte more (number_digits most_distance digits n h) no_digit

    go : (ds : List ℕ) → ds ≡ digits → number_at way name (digits ++ rest) ds (number_up_to most_distance ds) ≡ record { by = way n; rest = rest }
    go ds e =
        ap (λ xs. number_at way name (digits ++ rest) xs (number_up_to most_distance xs)) e
        ∙ ap (λ o. number_at way name (digits ++ rest) digits o) h
        ∙ ap (λ xs. let m : Moved = record { by = way n; rest = xs } in m) (drop-append_seam digits rest)

-- a distance is read as it is written, where the text behind it ends it
distance_read : (lowers raises text rest : List ℕ) (by : ℤ) → ((more : List ℕ) → starts_with nat_eq (raises ++ more) lowers ≡ false)
    → Ends lowers raises rest → Distance lowers raises text by → distance_of lowers raises (text ++ rest) ≡ record { by = by; rest = rest }
distance_read lowers raises text rest by apart ends (none empty) =
    let same : text ++ rest ≡ rest = ap (λ t. t ++ rest) empty in
    ap (λ name. distance_of lowers raises name) same
    ∙ if_false (starts_with nat_eq rest lowers) _ _ ends.not_lowers
    ∙ if_false (starts_with nat_eq rest raises) _ _ ends.not_raises
distance_read lowers raises text rest by apart ends (lower digits n whole number) =
    let same : text ++ rest ≡ lowers ++ (digits ++ rest) = ap (λ t. t ++ rest) whole ∙ append_assoc lowers digits rest in
    ap (λ name. distance_of lowers raises name) same
    ∙ if_true (starts_with nat_eq (lowers ++ (digits ++ rest)) lowers) _ _ (starts_to (lowers ++ (digits ++ rest)) lowers (digits ++ rest) refl)
    ∙ ap (λ on. behind_number (λ k. neg_ℤ (pos k)) (lowers ++ (digits ++ rest)) on) (drop-append_seam lowers (digits ++ rest))
    ∙ behind_is (λ k. neg_ℤ (pos k)) (lowers ++ (digits ++ rest)) digits rest n ends.byte ends.more ends.is ends.no_digit number
distance_read lowers raises text rest by apart ends (raise digits n whole number) =
    let same : text ++ rest ≡ raises ++ (digits ++ rest) = ap (λ t. t ++ rest) whole ∙ append_assoc raises digits rest in
    ap (λ name. distance_of lowers raises name) same
    ∙ if_false (starts_with nat_eq (raises ++ (digits ++ rest)) lowers) _ _ (apart (digits ++ rest))
    ∙ if_true (starts_with nat_eq (raises ++ (digits ++ rest)) raises) _ _ (starts_to (raises ++ (digits ++ rest)) raises (digits ++ rest) refl)
    ∙ ap (λ on. behind_number (λ k. pos k) (raises ++ (digits ++ rest)) on) (drop-append_seam raises (digits ++ rest))
    ∙ behind_is (λ k. pos k) (raises ++ (digits ++ rest)) digits rest n ends.byte ends.more ends.is ends.no_digit number

ends_after : (lowers raises right rest : List ℕ) (by : ℤ) → Distance (codes "W") (codes "E") right by → Ends (codes "N") (codes "S") (right ++ (codes "_" ++ rest))
ends_after lowers raises right rest by (none e) = record {
  byte = 95;
  more = rest;
  is = ap (λ t. t ++ (95 ∷ rest)) e;
  no_digit = refl;
  not_lowers = ap (λ t. starts_with nat_eq (t ++ (95 ∷ rest)) (codes "N")) e;
  not_raises = ap (λ t. starts_with nat_eq (t ++ (95 ∷ rest)) (codes "S")) e;
}
ends_after lowers raises right rest by (lower digits n e number) = record {
  byte = 87;
  more = digits ++ (95 ∷ rest);
  is = ap (λ t. t ++ (95 ∷ rest)) e;
  no_digit = refl;
  not_lowers = ap (λ t. starts_with nat_eq (t ++ (95 ∷ rest)) (codes "N")) e;
  not_raises = ap (λ t. starts_with nat_eq (t ++ (95 ∷ rest)) (codes "S")) e;
}
ends_after lowers raises right rest by (raise digits n e number) = record {
  byte = 69;
  more = digits ++ (95 ∷ rest);
  is = ap (λ t. t ++ (95 ∷ rest)) e;
  no_digit = refl;
  not_lowers = ap (λ t. starts_with nat_eq (t ++ (95 ∷ rest)) (codes "N")) e;
  not_raises = ap (λ t. starts_with nat_eq (t ++ (95 ∷ rest)) (codes "S")) e;
}

-- what is left of a name behind both distances
abbrev down_of : List ℕ → Moved
down_of name = distance_of (codes "N") (codes "S") name

abbrev right_of : List ℕ → Moved
right_of name = distance_of (codes "W") (codes "E") (down_of name).rest

abbrev has_base : List ℕ → Bool
has_base rest = starts_with nat_eq rest (codes "_") && nat_lt 1 (length rest)

-- both distances of a relative name are read as they are written
record Both (name : List ℕ) (rows columns : ℤ) (base : List ℕ) : Type 0 where
  down : (down_of name).by ≡ rows
  right : right_of name ≡ record { by = columns; rest = codes "_" ++ base }

both : (name base : List ℕ) (rows columns : ℤ) → IsRelative name rows columns base → Both name rows columns base
both name base rows columns r = record { down = ap (λ m. m.by) first; right = ap (λ m. distance_of (codes "W") (codes "E") m.rest) first ∙ second }
  where
    first : down_of name ≡ record { by = rows; rest = r.right ++ (codes "_" ++ base) }
    first = ap down_of r.whole ∙ distance_read (codes "N") (codes "S") r.down (r.right ++ (codes "_" ++ base)) rows (λ more. refl)
        (ends_after (codes "N") (codes "S") r.right base columns r.right_distance) r.down_distance

    second : distance_of (codes "W") (codes "E") (r.right ++ (codes "_" ++ base)) ≡ record { by = columns; rest = codes "_" ++ base }
    second = distance_read (codes "W") (codes "E") r.right (codes "_" ++ base) columns (λ more. refl)
        (record { byte = 95; more = base; is = refl; no_digit = refl; not_lowers = refl; not_raises = refl }) r.right_distance

base_there : (base : List ℕ) → base ≢ [] → has_base (codes "_" ++ base) ≡ true
base_there base n = let long : 1 < suc (length base) = (let p = has_length base n in omega arith) in lt-ltb 1 (suc (length base)) long

-- a relative name is read as it is written
pub relative_to : (name base : List ℕ) (rows columns : ℤ) → IsRelative name rows columns base → relative_of name ≡ record { rows = rows; columns = columns; base = base }
relative_to name base rows columns r =
    let b = both name base rows columns r in
    ap (λ by. behind_distances by (right_of name).by name (right_of name).rest) b.down
    ∙ ap (λ m. behind_distances rows m.by name m.rest) b.right
    ∙ if_true (has_base (codes "_" ++ base)) _ _ (base_there base r.has_base)

-- what is read of a name: a relative one with its distances, or the name itself where it isn't relative
pub data IsRead (name : List ℕ) : Relative → Type 0 where
  read_relative : (rows columns : ℤ) (base : List ℕ) → IsRelative name rows columns base → IsRead name (record { rows = rows; columns = columns; base = base })
  read_own : ((rows columns : ℤ) (base : List ℕ) → IsRelative name rows columns base → ⊥) → IsRead name (record { rows = pos 0; columns = pos 0; base = name })

-- a text of at least two bytes has one behind the first
tail_there : (rest : List ℕ) → nat_lt 1 (length rest) ≡ true → drop 1 rest ≢ []
tail_there [] h e = absurd (false≢true h)
tail_there (x ∷ []) h e = absurd (false≢true h)
tail_there (x ∷ y ∷ ys) h e = let no : ⊥ = cc in no

pub is_read : (name : List ℕ) → IsRead name (relative_of name)
is_read name = go (has_base (right_of name).rest) refl
  where
    go : (b : Bool) → has_base (right_of name).rest ≡ b
        → IsRead name (if b then record { rows = (down_of name).by; columns = (right_of name).by; base = drop 1 (right_of name).rest } else record { rows = pos 0; columns = pos 0; base = name })
    go true e =
        let parts = and_parts (starts_with nat_eq (right_of name).rest (codes "_")) (nat_lt 1 (length (right_of name).rest)) e in
        let d = read_distance (codes "N") (codes "S") name in
        let r = read_distance (codes "W") (codes "E") (down_of name).rest in
        read_relative (down_of name).by (right_of name).by (drop 1 (right_of name).rest) (record {
          down = d.text;
          right = r.text;
          whole = d.whole ∙ ap (λ t. d.text ++ t) (r.whole ∙ ap (λ t. r.text ++ t) (starts_from (right_of name).rest (codes "_") parts.0));
          down_distance = d.distance;
          right_distance = r.distance;
          has_base = tail_there (right_of name).rest parts.1;
        })
    go false e = read_own (λ rows columns base r.
        false≢true (sym e ∙ ap (λ m. has_base m.rest) (both name base rows columns r).right ∙ base_there base r.has_base))
