-- The test of equal shape is exact.
use Rattle.std.proofs.Common.{◌≡◌, Bool, true, false, not, List, Option, Some, None, refl, ap, subst, ◌↔◌}
use Rattle.std.specs.Prelude.{map, ◌==◌, ◌&&◌, if◌then◌else◌}
use Rattle.std.specs.Bool.{Decides}
use Rattle.std.specs.Option.{option_eq}
use Rattle.std.specs.Cmp.Lexicographic.{pointwise}
use Rattle.std.specs.Str.{bytes_eq}
use Rattle.std.proofs.lemmas.Bool.{false≢true, and_parts, and_from}
use Rattle.std.proofs.lemmas.Bool.Decides.{Decides-eqb}
use Rattle.std.proofs.lemmas.Slice.Eq.{slice_eq-Decides, bytes_eq-Decides}
use Rattle.patterns.specs.Bits.{PatternBit}
use Rattle.records.specs.Database.{EnumOption}
use Rattle.records.specs.Profile.{SliceKind}
use Rattle.fabric.specs.Settings.{Settings}
use Rattle.cells.specs.Shapes.{Form, form_of, same_pattern_bit, same_option, same_form, HaveEqualShape, equal_shape}

lists : {A : Type 0} {E : A → A → Bool} → ((a b : A) → Decides (E a b) (a ≡ b)) → (xs ys : List A) → Decides (pointwise E xs ys) (xs ≡ ys)
lists {E = E} d xs ys = slice_eq-Decides d xs ys (pointwise E xs ys) refl

options : {A : Type 0} {E : A → A → Bool} → ((a b : A) → Decides (E a b) (a ≡ b)) → (x y : Option A) → Decides (option_eq E x y) (x ≡ y)
options d None None = ((λ h. refl), (λ e. refl))
options d None (Some b) = ((λ h. absurd (false≢true h)), (λ e. absurd (let no : ⊥ = cc in no)))
options d (Some a) None = ((λ h. absurd (false≢true h)), (λ e. absurd (let no : ⊥ = cc in no)))
options d (Some a) (Some b) = ((λ h. ap (λ z. Some z) ((d a b).0 h)), (λ e. (d a b).1 (let s : a ≡ b = cc in s)))

same_flag : (a b : Bool) → Decides (if a then b else not b) (a ≡ b)
same_flag true true = ((λ h. refl), (λ e. refl))
same_flag true false = ((λ h. absurd (false≢true h)), (λ e. absurd (let no : ⊥ = cc in no)))
same_flag false true = ((λ h. absurd (false≢true h)), (λ e. absurd (let no : ⊥ = cc in no)))
same_flag false false = ((λ h. refl), (λ e. refl))

bits : (p q : PatternBit) → Decides (same_pattern_bit p q) (p ≡ q)
bits p q = (there, λ e. subst (λ z. same_pattern_bit p z ≡ true) e back)
  where
    there : same_pattern_bit p q ≡ true → p ≡ q
    there h =
        let one = and_parts (p.frame == q.frame) ((p.bit == q.bit) && (if p.set then q.set else not q.set)) h in
        let two = and_parts (p.bit == q.bit) (if p.set then q.set else not q.set) one.1 in
        let frames = (Decides-eqb p.frame q.frame).0 one.0 in
        let places = (Decides-eqb p.bit q.bit).0 two.0 in
        let flags = (same_flag p.set q.set).0 two.1 in
        λ i. record { frame = frames i; bit = places i; set = flags i }

    back : same_pattern_bit p p ≡ true
    back = and_from (p.frame == p.frame) ((p.bit == p.bit) && (if p.set then p.set else not p.set)) ((Decides-eqb p.frame p.frame).1 refl)
        (and_from (p.bit == p.bit) (if p.set then p.set else not p.set) ((Decides-eqb p.bit p.bit).1 refl) ((same_flag p.set p.set).1 refl))

enum_options : (p q : EnumOption) → Decides (same_option p q) (p ≡ q)
enum_options p q = (there, λ e. subst (λ z. same_option p z ≡ true) e back)
  where
    there : same_option p q ≡ true → p ≡ q
    there h =
        let parts = and_parts (bytes_eq p.value q.value) (pointwise same_pattern_bit p.bits q.bits) h in
        let values = (bytes_eq-Decides p.value q.value).0 parts.0 in
        let patterns = (lists bits p.bits q.bits).0 parts.1 in
        λ i. record { value = values i; bits = patterns i }

    back : same_option p p ≡ true
    back = and_from (bytes_eq p.value p.value) (pointwise same_pattern_bit p.bits p.bits) ((bytes_eq-Decides p.value p.value).1 refl) ((lists bits p.bits p.bits).1 refl)

forms : (x y : Form) → Decides (same_form x y) (x ≡ y)
forms x y = (there, λ e. subst (λ z. same_form x z ≡ true) e back)
  where
    there : same_form x y ≡ true → x ≡ y
    there h =
        let parts = and_parts (option_eq (pointwise (pointwise same_pattern_bit)) x.word y.word) (option_eq (pointwise same_option) x.options y.options) h in
        let first = (options (lists (lists bits)) x.word y.word).0 parts.0 in
        let second = (options (lists enum_options) x.options y.options).0 parts.1 in
        λ i. record { word = first i; options = second i }

    back : same_form x x ≡ true
    back = and_from (option_eq (pointwise (pointwise same_pattern_bit)) x.word x.word) (option_eq (pointwise same_option) x.options x.options)
        ((options (lists (lists bits)) x.word x.word).1 refl) ((options (lists enum_options) x.options x.options).1 refl)

pub equal_shape_exact : (in_a : Settings) (a : SliceKind) (in_b : Settings) (b : SliceKind) → (equal_shape in_a a in_b b ≡ true) ↔ HaveEqualShape in_a a in_b b
equal_shape_exact in_a a in_b b = (there, back)
  where
    there : equal_shape in_a a in_b b ≡ true → HaveEqualShape in_a a in_b b
    there h =
        let parts = and_parts (bytes_eq a.shape b.shape) (pointwise same_form (map (form_of in_a) a.settings) (map (form_of in_b) b.settings)) h in
        record { shapes = (bytes_eq-Decides a.shape b.shape).0 parts.0; forms = (lists forms (map (form_of in_a) a.settings) (map (form_of in_b) b.settings)).0 parts.1 }

    back : HaveEqualShape in_a a in_b b → equal_shape in_a a in_b b ≡ true
    back s = and_from (bytes_eq a.shape b.shape) (pointwise same_form (map (form_of in_a) a.settings) (map (form_of in_b) b.settings))
        ((bytes_eq-Decides a.shape b.shape).1 s.shapes) ((lists forms (map (form_of in_a) a.settings) (map (form_of in_b) b.settings)).1 s.forms)
