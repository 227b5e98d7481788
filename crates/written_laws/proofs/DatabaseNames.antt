-- What a database that is read declares has names.
use Rattle.std.proofs.Common.{◌≡◌, ℕ, Bool, true, false, inl, inr, List, [], ◌∷◌, Option, Some, None, option_map, refl, subst}
use Rattle.std.specs.Prelude.{Ok, codes, if◌then◌else◌, ◌&&◌}
use Rattle.std.specs.Str.{bytes_eq}
use Rattle.std.proofs.lemmas.Bool.{and_parts}
use Rattle.words.specs.Members.{In}
use Rattle.words.specs.Firsts.{first_fault, unless_fault}
use Rattle.texts.specs.Names.{is_name}
use Rattle.records.specs.Database.{Arc, Mux, WordSetting, EnumOption, EnumSetting, TileDb}
use Rattle.grammars.specs.Rows.{Row, rows_of}
use Rattle.grammars.specs.BitsDb.{DbFault, some_if, arc_of, option_of, bits_of, Head, MuxHead, WordHead, EnumHead, FixedHead, mux_head, word_head, enum_head, fixed_head, head_of, Section, rows_up_to_head, section_before, sections_of, arcs_of, options_of, mux_of, word_of, enum_of, database_with, fault_of}
use Rattle.fabric_laws.proofs.Members.{in_filter_map_from}
use Rattle.formed_laws.specs.DatabaseRead.{IsReadDatabase}

-- sinks and sources, words, enums and values of a database are names
pub record HasNames (db : TileDb) : Type 0 where
  pub sinks : (m : Mux) → In db.muxes m → is_name m.sink ≡ true
  pub sources : (m : Mux) (a : Arc) → In db.muxes m → In m.arcs a → is_name a.source ≡ true
  pub words : (w : WordSetting) → In db.words w → is_name w.name ≡ true
  pub enums : (e : EnumSetting) → In db.enums e → is_name e.name ≡ true
  pub values : (e : EnumSetting) (o : EnumOption) → In db.enums e → In e.options o → is_name o.value ≡ true

-- ---- heads

abbrev HeadIsNamed : Head → Type 0
HeadIsNamed (MuxHead sink) = is_name sink ≡ true
HeadIsNamed (WordHead name) = is_name name ≡ true
HeadIsNamed (EnumHead name default) = is_name name ≡ true
HeadIsNamed (FixedHead sink source) = Unit {0}

where_so : (b : Bool) (head h : Head) → some_if b head ≡ Some h → (b ≡ true → HeadIsNamed head) → HeadIsNamed h
where_so true head h e named = let same : head ≡ h = cc in subst HeadIsNamed same (named refl)
where_so false head h e named = absurd (let no : ⊥ = cc in no)

named_mux : (words : List (List ℕ)) (h : Head) → mux_head words ≡ Some h → HeadIsNamed h
named_mux [] h e = absurd (let no : ⊥ = cc in no)
named_mux (sink ∷ []) h e = where_so (is_name sink) (MuxHead sink) h e (λ n. n)
named_mux (sink ∷ more ∷ rest) h e = absurd (let no : ⊥ = cc in no)

named_word : (words : List (List ℕ)) (h : Head) → word_head words ≡ Some h → HeadIsNamed h
named_word [] h e = absurd (let no : ⊥ = cc in no)
named_word (name ∷ []) h e = where_so (is_name name) (WordHead name) h e (λ n. n)
named_word (name ∷ default ∷ []) h e = where_so (is_name name) (WordHead name) h e (λ n. n)
named_word (name ∷ default ∷ more ∷ rest) h e = absurd (let no : ⊥ = cc in no)

named_enum : (words : List (List ℕ)) (h : Head) → enum_head words ≡ Some h → HeadIsNamed h
named_enum [] h e = absurd (let no : ⊥ = cc in no)
named_enum (name ∷ []) h e = where_so (is_name name) (EnumHead name None) h e (λ n. n)
named_enum (name ∷ default ∷ []) h e = where_so (is_name name && is_name default) (EnumHead name (Some default)) h e (λ n. (and_parts (is_name name) (is_name default) n).0)
named_enum (name ∷ default ∷ more ∷ rest) h e = absurd (let no : ⊥ = cc in no)

named_fixed : (words : List (List ℕ)) (h : Head) → fixed_head words ≡ Some h → HeadIsNamed h
named_fixed [] h e = absurd (let no : ⊥ = cc in no)
named_fixed (sink ∷ []) h e = absurd (let no : ⊥ = cc in no)
named_fixed (sink ∷ source ∷ []) h e = where_so (is_name sink && is_name source) (FixedHead sink source) h e (λ n. tt)
named_fixed (sink ∷ source ∷ more ∷ rest) h e = absurd (let no : ⊥ = cc in no)

one_of_four : (a b c d : Bool) (words : List (List ℕ)) (h : Head)
    → (if a then mux_head words else if b then word_head words else if c then enum_head words else if d then fixed_head words else None) ≡ Some h → HeadIsNamed h
one_of_four true b c d words h e = named_mux words h e
one_of_four false true c d words h e = named_word words h e
one_of_four false false true d words h e = named_enum words h e
one_of_four false false false true words h e = named_fixed words h e
one_of_four false false false false words h e = absurd (let no : ⊥ = cc in no)

head_named : (words : List (List ℕ)) (h : Head) → head_of words ≡ Some h → HeadIsNamed h
head_named [] h e = absurd (let no : ⊥ = cc in no)
head_named (first ∷ words) h e =
    one_of_four (bytes_eq first (codes ".mux")) (bytes_eq first (codes ".config")) (bytes_eq first (codes ".config_enum")) (bytes_eq first (codes ".fixed_conn")) words h e

-- the head of each section has its name
heads_named : (rows : List Row) (s : Section) → In (sections_of rows) s → HeadIsNamed s.head
heads_named [] s i = absurd i
heads_named (row ∷ rows) s i = go (head_of row.words) refl i (heads_named rows s)
  where
    go : (o : Option Head) → head_of row.words ≡ o → In (section_before o (rows_up_to_head rows) (sections_of rows)) s → (In (sections_of rows) s → HeadIsNamed s.head) → HeadIsNamed s.head
    go None e j ih = ih j
    go (Some h) e j ih = elim j [ inl same ↦ subst (λ (x : Section). HeadIsNamed x.head) same (head_named row.words h e) | inr k ↦ ih k ]

-- ---- rows

arc_named : (words : List (List ℕ)) (a : Arc) → arc_of words ≡ Some a → is_name a.source ≡ true
arc_named [] a e = absurd (let no : ⊥ = cc in no)
arc_named (source ∷ bits) a e = go (is_name source) refl e (bits_of bits) refl
  where
    go : (b : Bool) → is_name source ≡ b → (if b then option_map (λ pattern. let made : Arc = record { source = source; bits = pattern } in made) (bits_of bits) else None) ≡ Some a
        → (o : Option _) → bits_of bits ≡ o → is_name a.source ≡ true
    go false n k o p = absurd (let no : ⊥ = cc in no)
    go true n k None p = absurd (let no : ⊥ = cc in no)
    go true n k (Some pattern) p = let same : record { source = source; bits = pattern } ≡ a = cc in subst (λ (x : Arc). is_name x.source ≡ true) same n

option_named : (words : List (List ℕ)) (a : EnumOption) → option_of words ≡ Some a → is_name a.value ≡ true
option_named [] a e = absurd (let no : ⊥ = cc in no)
option_named (value ∷ bits) a e = go (is_name value) refl e (bits_of bits) refl
  where
    go : (b : Bool) → is_name value ≡ b → (if b then option_map (λ pattern. let made : EnumOption = record { value = value; bits = pattern } in made) (bits_of bits) else None) ≡ Some a
        → (o : Option _) → bits_of bits ≡ o → is_name a.value ≡ true
    go false n k o p = absurd (let no : ⊥ = cc in no)
    go true n k None p = absurd (let no : ⊥ = cc in no)
    go true n k (Some pattern) p = let same : record { value = value; bits = pattern } ≡ a = cc in subst (λ (x : EnumOption). is_name x.value ≡ true) same n

arcs_named : (rows : List Row) (a : Arc) → In (arcs_of rows) a → is_name a.source ≡ true
arcs_named rows a i = let r = in_filter_map_from (λ (row : Row). arc_of row.words) rows a i in arc_named r.0.words a r.2

options_named : (rows : List Row) (o : EnumOption) → In (options_of rows) o → is_name o.value ≡ true
options_named rows o i = let r = in_filter_map_from (λ (row : Row). option_of row.words) rows o i in option_named r.0.words o r.2

-- ---- what sections declare

abbrev MuxIsNamed : Mux → Type 0
MuxIsNamed m = (is_name m.sink ≡ true) × ((a : Arc) → In m.arcs a → is_name a.source ≡ true)

abbrev EnumIsNamed : EnumSetting → Type 0
EnumIsNamed e = (is_name e.name ≡ true) × ((o : EnumOption) → In e.options o → is_name o.value ≡ true)

mux_named : (head : Head) (rows : List Row) (m : Mux) → HeadIsNamed head → mux_of head rows ≡ Some m → MuxIsNamed m
mux_named (MuxHead sink) rows m n e = let same : record { sink = sink; arcs = arcs_of rows } ≡ m = cc in subst MuxIsNamed same (n, arcs_named rows)
mux_named (WordHead name) rows m n e = absurd (let no : ⊥ = cc in no)
mux_named (EnumHead name default) rows m n e = absurd (let no : ⊥ = cc in no)
mux_named (FixedHead sink source) rows m n e = absurd (let no : ⊥ = cc in no)

word_named : (head : Head) (rows : List Row) (w : WordSetting) → HeadIsNamed head → word_of head rows ≡ Some w → is_name w.name ≡ true
word_named (MuxHead sink) rows w n e = absurd (let no : ⊥ = cc in no)
word_named (WordHead name) rows w n e = let same : name ≡ w.name = cc in subst (λ x. is_name x ≡ true) same n
word_named (EnumHead name default) rows w n e = absurd (let no : ⊥ = cc in no)
word_named (FixedHead sink source) rows w n e = absurd (let no : ⊥ = cc in no)

enum_named : (head : Head) (rows : List Row) (s : EnumSetting) → HeadIsNamed head → enum_of head rows ≡ Some s → EnumIsNamed s
enum_named (MuxHead sink) rows s n e = absurd (let no : ⊥ = cc in no)
enum_named (WordHead name) rows s n e = absurd (let no : ⊥ = cc in no)
enum_named (EnumHead name default) rows s n e = let same : record { name = name; default = default; options = options_of rows } ≡ s = cc in subst EnumIsNamed same (n, options_named rows)
enum_named (FixedHead sink source) rows s n e = absurd (let no : ⊥ = cc in no)

module _ (rows : List Row) where
  abbrev sections : List Section
  sections = sections_of rows

  each_mux : (m : Mux) → In (database_with sections).muxes m → MuxIsNamed m
  each_mux m i = let r = in_filter_map_from (λ (s : Section). mux_of s.head s.rows) sections m i in mux_named r.0.head r.0.rows m (heads_named rows r.0 r.1) r.2

  each_word : (w : WordSetting) → In (database_with sections).words w → is_name w.name ≡ true
  each_word w i = let r = in_filter_map_from (λ (s : Section). word_of s.head s.rows) sections w i in word_named r.0.head r.0.rows w (heads_named rows r.0 r.1) r.2

  each_enum : (e : EnumSetting) → In (database_with sections).enums e → EnumIsNamed e
  each_enum e i = let r = in_filter_map_from (λ (s : Section). enum_of s.head s.rows) sections e i in enum_named r.0.head r.0.rows e (heads_named rows r.0 r.1) r.2

  sections_named : HasNames (database_with sections)
  sections_named = record {
    sinks = λ m i. (each_mux m i).0;
    sources = λ m a i j. (each_mux m i).1 a j;
    words = each_word;
    enums = λ e i. (each_enum e i).0;
    values = λ e o i j. (each_enum e i).1 o j;
  }

read_so : (o : Option DbFault) (made db : TileDb) → unless_fault o made ≡ Ok db → made ≡ db
read_so None made db h = cc
read_so (Some f) made db h = absurd (let no : ⊥ = cc in no)

pub read_names : (db : TileDb) → IsReadDatabase db → HasNames db
read_names db read =
    let rows = rows_of read.0 in
    subst HasNames (read_so (first_fault fault_of rows) (database_with (sections_of rows)) db read.1) (sections_named rows)
