-- The elements of a side file that is read, and that what they print has their form.
use Rattle.std.proofs.Common.{◌≡◌, ◌<◌, ◌≤◌, ◌^◌, ℕ, Bool, true, false, List, [], ◌∷◌, Option, Some, None, cond, refl, ap, subst, arith}
use Rattle.std.specs.Prelude.{nat_le, if◌then◌else◌}
use Rattle.std.specs.Option.{option_and_then}
use Rattle.std.proofs.lemmas.Bool.{leb-true, le-leb}
use Rattle.serde_json.specs.Data.{Data, string}
use Rattle.serde_json.specs.Find.{as_str, as_number, as_u64}
use Rattle.records.specs.Side.{Domain, D0, D1, D2, Placed, Triple, Voter}
use Rattle.texts.specs.Names.{is_name}
use Rattle.json_forms.specs.Options.{◌>>=◌}
use Rattle.json_forms.specs.Values.{if_name, list_in, name_in, whole_in}
use Rattle.json_forms.specs.Parts.{pair_in, triple_in}
use Rattle.side_form.specs.Placings.{four_of, domain_in, placed_in, names_in, voter_in}
use Rattle.side_form.specs.SidePrint.{domain_number, whole_value, placed_value, triple_value, voter_value}
use Rattle.cells_laws.proofs.Options.{then_from}
use Rattle.text_laws.specs.Formed.{IsFormedCell, IsFormedTriple, IsFormedVoter}
use Rattle.text_laws.proofs.ReadBack.{IsPlain, name_plain, whole_plain, few_plain}

-- what is read as a name is one
named : (d : Data) (n : List ℕ) → name_in d ≡ Some n → is_name n ≡ true
named d n h = (let t = then_from if_name (as_str d) n h in go t.0 (is_name t.0) refl t.1.1)
  where
    go : (s : List ℕ) (b : Bool) → is_name s ≡ b → cond b (Some s) None ≡ Some n → is_name n ≡ true
    go s true e k = let same : s ≡ n = cc in subst (λ m. is_name m ≡ true) same e
    go s false e k = absurd (let no : ⊥ = cc in no)

name_back : (s : List ℕ) → is_name s ≡ true → name_in (string s) ≡ Some s
name_back s h = ap (λ b. cond b (Some s) None) h

-- what is read as a whole number isn't above its bound
within : (most : ℕ) (d : Data) (n : ℕ) → whole_in most d ≡ Some n → nat_le n most ≡ true
within most d n h = (let t = then_from (λ m. if nat_le m most then Some m else None) (option_and_then as_u64 (as_number d)) n h in go t.0 (nat_le t.0 most) refl t.1.1)
  where
    go : (m : ℕ) (b : Bool) → nat_le m most ≡ b → cond b (Some m) None ≡ Some n → nat_le n most ≡ true
    go m true e k = let same : m ≡ n = cc in subst (λ x. nat_le x most ≡ true) same e
    go m false e k = absurd (let no : ⊥ = cc in no)

whole_back : (most n : ℕ) → nat_le n most ≡ true → whole_in most (whole_value n) ≡ Some n
whole_back most n h = ap (λ b. cond b (Some n) None) h

domain_back : (d : Domain) → domain_in (whole_value (domain_number d)) ≡ Some d
domain_back D0 = refl
domain_back D1 = refl
domain_back D2 = refl

domain_plain : (d : Domain) → IsPlain 0 (whole_value (domain_number d))
domain_plain D0 = whole_plain 0 (omega arith)
domain_plain D1 = whole_plain 1 (omega arith)
domain_plain D2 = whole_plain 2 (omega arith)

-- ---- cells

abbrev placed_of : Option (List ℕ) → Option (List ℕ) → Option (List ℕ) → Option Domain → Option Placed
placed_of a b c d = a >>= λ name. b >>= λ tile. c >>= λ kind. d >>= λ domain. Some (record { name = name; tile = tile; kind = kind; domain = domain })

abbrev placed_of_four : Data × Data × Data × Data → Option Placed
placed_of_four four = placed_of (name_in four.0) (name_in four.1) (name_in four.2) (domain_in four.3)

placed_parts : (a b c : Option (List ℕ)) (d : Option Domain) (p : Placed) → placed_of a b c d ≡ Some p → (a ≡ Some p.name) × (b ≡ Some p.tile) × (c ≡ Some p.kind)
placed_parts None b c d p h = absurd (let no : ⊥ = cc in no)
placed_parts (Some x) None c d p h = absurd (let no : ⊥ = cc in no)
placed_parts (Some x) (Some y) None d p h = absurd (let no : ⊥ = cc in no)
placed_parts (Some x) (Some y) (Some z) None p h = absurd (let no : ⊥ = cc in no)
placed_parts (Some x) (Some y) (Some z) (Some d) p h =
    let same : record { name = x; tile = y; kind = z; domain = d } ≡ p = cc in
    (ap (λ (q : Placed). Some q.name) same, ap (λ (q : Placed). Some q.tile) same, ap (λ (q : Placed). Some q.kind) same)

pub placed_form : (d : Data) (p : Placed) → placed_in d ≡ Some p → IsFormedCell p
unfolding placed_in
placed_form d p h =
    let e = then_from (λ elements. four_of elements >>= placed_of_four) (list_in d) p h in
    let f = then_from placed_of_four (four_of e.0) p e.1.1 in
    let parts = placed_parts (name_in f.0.0) (name_in f.0.1) (name_in f.0.2) (domain_in f.0.3) p f.1.1 in
    record { name = named f.0.0 p.name parts.0; tile = named f.0.1 p.tile parts.1; kind = named f.0.2 p.kind parts.2 }

placed_made : (a b c : Option (List ℕ)) (d : Option Domain) (p : Placed) → a ≡ Some p.name → b ≡ Some p.tile → c ≡ Some p.kind → d ≡ Some p.domain → placed_of a b c d ≡ Some p
placed_made a b c d p e f g h = rw (e, f, g, h)

pub placed_back : (p : Placed) → IsFormedCell p → placed_in (placed_value p) ≡ Some p
unfolding placed_in
placed_back p h =
    placed_made (name_in (string p.name)) (name_in (string p.tile)) (name_in (string p.kind)) (domain_in (whole_value (domain_number p.domain))) p
    (name_back p.name h.name) (name_back p.tile h.tile) (name_back p.kind h.kind) (domain_back p.domain)

pub placed_plain : (p : Placed) → IsFormedCell p → IsPlain 1 (placed_value p)
placed_plain p h =
    few_plain 0 (string p.name ∷ string p.tile ∷ string p.kind ∷ whole_value (domain_number p.domain) ∷ [])
    (name_plain p.name h.name, (name_plain p.tile h.tile, (name_plain p.kind h.kind, (domain_plain p.domain, tt))))

-- ---- triples

abbrev triple_of : Option (List ℕ) → Option (List ℕ) → Option (List ℕ) → Option Triple
triple_of a b c = a >>= λ first. b >>= λ second. c >>= λ third. Some (record { first = first; second = second; third = third })

abbrev triple_of_three : Data × Data × Data → Option Triple
triple_of_three three = triple_of (name_in three.0) (name_in three.1) (name_in three.2)

triple_parts : (a b c : Option (List ℕ)) (t : Triple) → triple_of a b c ≡ Some t → (a ≡ Some t.first) × (b ≡ Some t.second) × (c ≡ Some t.third)
triple_parts None b c t h = absurd (let no : ⊥ = cc in no)
triple_parts (Some x) None c t h = absurd (let no : ⊥ = cc in no)
triple_parts (Some x) (Some y) None t h = absurd (let no : ⊥ = cc in no)
triple_parts (Some x) (Some y) (Some z) t h =
    let same : record { first = x; second = y; third = z } ≡ t = cc in
    (ap (λ (u : Triple). Some u.first) same, ap (λ (u : Triple). Some u.second) same, ap (λ (u : Triple). Some u.third) same)

pub triple_form : (d : Data) (t : Triple) → names_in d ≡ Some t → IsFormedTriple t
unfolding names_in
triple_form d t h =
    let f = then_from triple_of_three (triple_in d) t h in
    let parts = triple_parts (name_in f.0.0) (name_in f.0.1) (name_in f.0.2) t f.1.1 in
    record { first = named f.0.0 t.first parts.0; second = named f.0.1 t.second parts.1; third = named f.0.2 t.third parts.2 }

triple_made : (a b c : Option (List ℕ)) (t : Triple) → a ≡ Some t.first → b ≡ Some t.second → c ≡ Some t.third → triple_of a b c ≡ Some t
triple_made a b c t e f g = rw (e, f, g)

pub triple_back : (t : Triple) → IsFormedTriple t → names_in (triple_value t) ≡ Some t
unfolding names_in
triple_back t h =
    triple_made (name_in (string t.first)) (name_in (string t.second)) (name_in (string t.third)) t (name_back t.first h.first) (name_back t.second h.second) (name_back t.third h.third)

pub triple_plain : (t : Triple) → IsFormedTriple t → IsPlain 1 (triple_value t)
triple_plain t h =
    few_plain 0 (string t.first ∷ string t.second ∷ string t.third ∷ []) (name_plain t.first h.first, (name_plain t.second h.second, (name_plain t.third h.third, tt)))

-- ---- voters

abbrev voter_of : Option (List ℕ) → Option ℕ → Option Voter
voter_of a b = a >>= λ slice. b >>= λ table. Some (record { slice = slice; table = table })

abbrev voter_of_two : Data × Data → Option Voter
voter_of_two pair = voter_of (name_in pair.0) (whole_in 65535 pair.1)

voter_parts : (a : Option (List ℕ)) (b : Option ℕ) (v : Voter) → voter_of a b ≡ Some v → (a ≡ Some v.slice) × (b ≡ Some v.table)
voter_parts None b v h = absurd (let no : ⊥ = cc in no)
voter_parts (Some x) None v h = absurd (let no : ⊥ = cc in no)
voter_parts (Some x) (Some n) v h =
    let same : record { slice = x; table = n } ≡ v = cc in (ap (λ (u : Voter). Some u.slice) same, ap (λ (u : Voter). Some u.table) same)

pub voter_form : (d : Data) (v : Voter) → voter_in d ≡ Some v → IsFormedVoter v
unfolding voter_in
voter_form d v h =
    let f = then_from voter_of_two (pair_in d) v h in
    let parts = voter_parts (name_in f.0.0) (whole_in 65535 f.0.1) v f.1.1 in
    record { slice = named f.0.0 v.slice parts.0; table = leb-true v.table 65535 (within 65535 f.0.1 v.table parts.1) }

voter_made : (a : Option (List ℕ)) (b : Option ℕ) (v : Voter) → a ≡ Some v.slice → b ≡ Some v.table → voter_of a b ≡ Some v
voter_made a b v e f = rw (e, f)

pub voter_back : (v : Voter) → IsFormedVoter v → voter_in (voter_value v) ≡ Some v
unfolding voter_in
voter_back v h = voter_made (name_in (string v.slice)) (whole_in 65535 (whole_value v.table)) v (name_back v.slice h.slice) (whole_back 65535 v.table (le-leb v.table 65535 h.table))

table_small : (n : ℕ) → n ≤ 65535 → n < 2 ^ 64
table_small n h = omega arith

pub voter_plain : (v : Voter) → IsFormedVoter v → IsPlain 1 (voter_value v)
voter_plain v h = few_plain 0 (string v.slice ∷ whole_value v.table ∷ []) (name_plain v.slice h.slice, (whole_plain v.table (table_small v.table h.table), tt))
