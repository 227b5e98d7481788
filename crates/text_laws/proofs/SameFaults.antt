-- Of a configuration that is the same as one whose lines name what is there, but for the numbers of lines and sections
-- without lines, no line is refused.
use Rattle.std.proofs.Common.{◌≡◌, ℕ, Bool, true, false, List, [], ◌∷◌, ◌++◌, length, map, flat_map, cond, inl, inr, Option, Some, None, option_map, refl, sym, ap, subst, ◌∙◌, arith, length-append}
use Rattle.std.specs.Prelude.{◌==◌, ◌&&◌, nat_lt, slice_get}
use Rattle.std.specs.Option.{option_map_or}
use Rattle.words.specs.Members.{In}
use Rattle.records.specs.Grid.{Tile}
use Rattle.records.specs.Config.{ArcLine, WordLine, EnumLine, UnknownLine, TileText, Config}
use Rattle.fabric.specs.Graph.{Graph}
use Rattle.fabric.specs.Image.{tile_named, mux_named, arc_named}
use Rattle.fabric.specs.Settings.{Settings, word_named, enum_named, option_of}
use Rattle.design_checks.specs.LineChecks.{LineFault, source_fault, arc_faults_in, arc_faults, word_length_faults, word_faults, option_faults, enum_faults, unknown_faults, lines_faults, section_faults_in, section_faults, lowest_line, line_refusal}
use Rattle.text_laws.specs.SameButLines.{unnumbered_arc, unnumbered_word, unnumbered_enum, unnumbered_unknown, unnumbered, EachHasLines, SameButLines}
use Rattle.text_laws.proofs.SameWrites.{its_like, turned}

-- ---- a section has as many faults without numbers

found_as_many : {X Y : Type 0} (f h : X → List Y) (o : Option X) (ys zs : List Y) → ((x : X) → length (f x) ≡ length (h x)) → length ys ≡ length zs → length (option_map_or f o ys) ≡ length (option_map_or h o zs)
found_as_many f h None ys zs same other = other
found_as_many f h (Some x) ys zs same other = same x

joined_as_many : {Y : Type 0} (vs ws xs ys : List Y) → length vs ≡ length xs → length ws ≡ length ys → length (vs ++ ws) ≡ length (xs ++ ys)
joined_as_many vs ws xs ys e f = omega (arith, length-append vs ws, length-append xs ys, e, f)

each_as_many : {X Y : Type 0} (change : X → X) (f : X → List Y) → ((x : X) → length (f (change x)) ≡ length (f x)) → (xs : List X) → length (flat_map f (map change xs)) ≡ length (flat_map f xs)
each_as_many change f same [] = refl
each_as_many change f same (x ∷ xs) = joined_as_many (f (change x)) (flat_map f (map change xs)) (f x) (flat_map f xs) (same x) (each_as_many change f same xs)

unless_as_many : (b : Bool) (x y : LineFault) → length (let none : List LineFault = [] in cond b none (x ∷ [])) ≡ length (let none : List LineFault = [] in cond b none (y ∷ []))
unless_as_many true x y = refl
unless_as_many false x y = refl

arc_as_many : (g : Graph) (number : ℕ) (tile : Tile) (a : ArcLine) → length (arc_faults g number tile (unnumbered_arc a)) ≡ length (arc_faults g number tile a)
arc_as_many g number tile a =
    found_as_many (λ place. arc_faults_in g number (unnumbered_arc a)) (λ place. arc_faults_in g number a) tile.place _ _
    (λ place. found_as_many (source_fault g number (unnumbered_arc a)) (source_fault g number a) (mux_named g number a.sink) _ _
    (λ mux. found_as_many (λ arc. []) (λ arc. []) (arc_named g mux a.source) _ _ (λ arc. refl) refl) refl) refl

word_as_many : (settings : Settings) (w : WordLine) → length (word_faults settings (unnumbered_word w)) ≡ length (word_faults settings w)
word_as_many settings w =
    found_as_many (word_length_faults (unnumbered_word w)) (word_length_faults w) (word_named settings w.name) _ _ (λ word. unless_as_many (length word.bits == length w.bits) _ _) refl

enum_as_many : (settings : Settings) (e : EnumLine) → length (enum_faults settings (unnumbered_enum e)) ≡ length (enum_faults settings e)
enum_as_many settings e =
    found_as_many (option_faults (unnumbered_enum e)) (option_faults e) (enum_named settings e.name) _ _ (λ enum. found_as_many (λ found. []) (λ found. []) (option_of enum e.value) _ _ (λ found. refl) refl) refl

unknown_as_many : (tile : Tile) (u : UnknownLine) → length (unknown_faults tile (unnumbered_unknown u)) ≡ length (unknown_faults tile u)
unknown_as_many tile u = unless_as_many (nat_lt u.frame tile.cols && nat_lt u.bit tile.rows) _ _

lines_as_many : (g : Graph) (t : TileText) (number : ℕ) (tile : Tile) (settings : Settings) → length (lines_faults g (unnumbered t) number tile settings) ≡ length (lines_faults g t number tile settings)
lines_as_many g t number tile settings =
    joined_as_many _ _ _ _
    (joined_as_many _ _ _ _
    (joined_as_many _ _ _ _ (each_as_many unnumbered_arc (arc_faults g number tile) (arc_as_many g number tile) t.arcs) (each_as_many unnumbered_word (word_faults settings) (word_as_many settings) t.words))
    (each_as_many unnumbered_enum (enum_faults settings) (enum_as_many settings) t.enums)) (each_as_many unnumbered_unknown (unknown_faults tile) (unknown_as_many tile) t.unknowns)

section_as_many : (g : Graph) (t : TileText) → length (section_faults g (unnumbered t)) ≡ length (section_faults g t)
section_as_many g t =
    found_as_many (section_faults_in g (unnumbered t)) (section_faults_in g t) (tile_named g t.tile) _ _
    (λ number. found_as_many (λ tile. option_map_or (lines_faults g (unnumbered t) number tile) (slice_get g.settings number) []) (λ tile. option_map_or (lines_faults g t number tile) (slice_get g.settings number) []) (slice_get g.grid.tiles number) _ _
    (λ tile. found_as_many (lines_faults g (unnumbered t) number tile) (lines_faults g t number tile) (slice_get g.settings number) _ _ (lines_as_many g t number tile) refl) refl) refl

-- ---- none of one, none of the other

none_in_both : {Y : Type 0} (xs ys : List Y) → xs ++ ys ≡ [] → (xs ≡ []) × (ys ≡ [])
none_in_both [] ys e = (refl, e)
none_in_both (x ∷ xs) ys e = absurd (let no : ⊥ = cc in no)

none_in_each : {X Y : Type 0} (f : X → List Y) (xs : List X) → flat_map f xs ≡ [] → (x : X) → In xs x → f x ≡ []
none_in_each f [] e x i = absurd i
none_in_each f (y ∷ ys) e x i =
    let both = none_in_both (f y) (flat_map f ys) e in elim i [ inl s ↦ subst (λ z. f z ≡ []) s both.0 | inr j ↦ none_in_each f ys both.1 x j ]

none_in_all : {X Y : Type 0} (f : X → List Y) (xs : List X) → ((x : X) → In xs x → f x ≡ []) → flat_map f xs ≡ []
none_in_all f [] h = refl
none_in_all f (x ∷ xs) h = ap (λ ys. ys ++ flat_map f xs) (h x (inl refl)) ∙ none_in_all f xs (λ y i. h y (inr i))

none_left : {Y : Type 0} (xs : List Y) → length xs ≡ 0 → xs ≡ []
none_left [] e = refl
none_left (x ∷ xs) e = absurd (omega (arith, e))

no_faults : (faults : List LineFault) → option_map (λ fault. fault.refusal) (lowest_line faults) ≡ None → faults ≡ []
no_faults [] e = refl
no_faults (f ∷ fs) e = absurd (let no : ⊥ = cc in no)

pub not_refused : (g : Graph) (c d : Config) → SameButLines c d → EachHasLines d → line_refusal g c ≡ None → line_refusal g d ≡ None
not_refused g c d same lines named =
    let none = none_in_each (section_faults g) c.tiles (no_faults (flat_map (section_faults g) c.tiles) named) in
    let each : (t : TileText) → In d.tiles t → section_faults g t ≡ [] = λ t i.
    (let u = its_like d c (turned c d same) t i (lines t i) in
    none_left (section_faults g t) (sym (section_as_many g t) ∙ ap (λ v. length (section_faults g v)) (sym u.1.1) ∙ section_as_many g u.0 ∙ ap length (none u.0 u.1.0))) in
    ap (λ faults. option_map (λ fault. fault.refusal) (lowest_line faults)) (none_in_all (section_faults g) d.tiles each)
