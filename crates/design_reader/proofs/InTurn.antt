-- Databases that are read one after the other.
use Rattle.std.proofs.Common.{◌≡◌, ℕ, ◌+◌, ◌<◌, inl, inr, List, [], ◌∷◌, ◌++◌, length, map, take, drop, get_or, refl, sym, ap, subst, ◌∙◌}
use Rattle.std.specs.Prelude.{Result, Ok, Err}
use Rattle.std.proofs.lemmas.List.{take_more, drop_more, get_or-map, length-map, take-append-drop}
use denote.Ref.{Bor}
use Rattle.words.specs.Members.{In}
use Rattle.json_forms.specs.Results.{◌>>=◌}
use Rattle.records.specs.Database.{TileDb}
use Rattle.fabric.specs.InOrder.{IsRising}
use Rattle.fabric.specs.Wires.{name_cmp}
use Rattle.fabric.specs.Device.{TypeDb}
use Rattle.answers.specs.Refusals.{Refusal}
use Rattle.design_files.specs.Names.{database_name}
use Rattle.design_files.specs.Parsed.{Files}
use Rattle.design_files.specs.Designs.{database_in, databases_in}
use Rattle.design_reader.specs.declared.errors.FileError.{FileError}
use Rattle.design_reader.specs.Answers.{Refuses, IsName}
use Rattle.design_reader.specs.Reached.{IsDatabaseReached}
use Rattle.design_reader.proofs.Rising.{map-push}
use Rattle.design_reader.proofs.Steps.{first_refuses, refuses_as}

-- ---- the names of types as a loop goes over them

module _ (kinds : List (Bor (List ℕ))) (i : ℕ) (kind : Bor (List ℕ)) (within : i < length kinds) (is : kind ≡ get_or kinds i kind) where
  here : get_or (map (λ k. k.now) kinds) i [] ≡ kind.now
  here = get_or-map (λ k. k.now) kinds i kind [] within ∙ ap (λ (k : Bor (List ℕ)). k.now) (sym is)

  inside : i < length (map (λ k. k.now) kinds)
  inside = rw (length-map kinds (λ k. k.now)) within

  -- one more name
  pub names_more : take (i + 1) (map (λ k. k.now) kinds) ≡ take i (map (λ k. k.now) kinds) ++ kind.now ∷ []
  names_more = take_more (map (λ k. k.now) kinds) i [] inside ∙ ap (λ (n : List ℕ). take i (map (λ k. k.now) kinds) ++ n ∷ []) here

  -- the names before it, itself, and those behind it
  pub names_split : map (λ k. k.now) kinds ≡ take i (map (λ k. k.now) kinds) ++ kind.now ∷ drop (i + 1) (map (λ k. k.now) kinds)
  names_split =
      sym (take-append-drop i (map (λ k. k.now) kinds))
      ∙ ap (λ (r : List (List ℕ)). take i (map (λ k. k.now) kinds) ++ r)
      (drop_more (map (λ k. k.now) kinds) i [] inside ∙ ap (λ (n : List ℕ). n ∷ drop (i + 1) (map (λ k. k.now) kinds)) here)

before_rest : (x : List ℕ) (front rest : List (List ℕ)) (k y : List ℕ) → In (front ++ k ∷ []) y → In (front ++ k ∷ rest) y
before_rest x [] rest k y i = elim i [ inl e ↦ inl e | inr j ↦ absurd j ]
before_rest x (z ∷ front) rest k y i = elim i [ inl e ↦ inl e | inr j ↦ inr (before_rest x front rest k y j) ]

front_rises : (front rest : List (List ℕ)) (k : List ℕ) → IsRising name_cmp (front ++ k ∷ rest) → IsRising name_cmp (front ++ k ∷ [])
front_rises [] rest k r = ((λ y i. absurd i), tt)
front_rises (x ∷ front) rest k r = ((λ y i. r.0 y (before_rest x front rest k y i)), front_rises front rest k r.1)

-- so far the types rise
pub rises_so_far : (names so_far front rest : List (List ℕ)) (k : List ℕ) → IsRising name_cmp names → names ≡ front ++ k ∷ rest → so_far ≡ front → IsRising name_cmp (so_far ++ k ∷ [])
rises_so_far names so_far front rest k r order same =
    subst (λ (f : List (List ℕ)). IsRising name_cmp (f ++ k ∷ [])) (sym same) (front_rises front rest k (subst (IsRising name_cmp) order r))

-- the types of the databases so far, with one more
pub kinds_more : (types : List TypeDb) (t : TypeDb) (front more : List (List ℕ)) → map (λ u. u.kind) types ≡ front → more ≡ front ++ t.kind ∷ [] → map (λ u. u.kind) (types ++ t ∷ []) ≡ more
kinds_more types t front more so_far is = map-push types t ∙ ap (λ (f : List (List ℕ)). f ++ t.kind ∷ []) so_far ∙ sym is

-- ---- databases

module _ (files : Files) (family : List ℕ) where
  -- the database of a type
  abbrev pub of_kind : List ℕ → Result TileDb Refusal
  of_kind kind = database_in (database_name family kind) (files (database_name family kind))

  -- databases behind others that were read
  abbrev behind : List TypeDb → Result (List TypeDb) Refusal → Result (List TypeDb) Refusal
  behind front rest = rest >>= λ types. Ok (front ++ types)

  behind_none : (rest : Result (List TypeDb) Refusal) → rest ≡ behind [] rest
  behind_none (Ok types) = refl
  behind_none (Err r) = refl

  one_behind : (t : TypeDb) (front : List TypeDb) (rest : Result (List TypeDb) Refusal) → (behind front rest >>= λ types. Ok (t ∷ types)) ≡ behind (t ∷ front) rest
  one_behind t front (Ok types) = refl
  one_behind t front (Err r) = refl

  in_two : (kind : List ℕ) (db : Result TileDb Refusal) (front rest : Result (List TypeDb) Refusal) (types : List TypeDb)
      → (db >>= λ d. front >>= λ others. Ok (record { kind = kind; db = d } ∷ others)) ≡ Ok types → (more : Result (List TypeDb) Refusal)
      → ((others : List TypeDb) → front ≡ Ok others → more ≡ behind others rest) → (db >>= λ d. more >>= λ others. Ok (record { kind = kind; db = d } ∷ others)) ≡ behind types rest
  in_two kind (Ok d) (Ok others) rest types e more ih =
      let t : TypeDb = record { kind = kind; db = d } in
      let whole : t ∷ others ≡ types = cc in
      ap (λ m. m >>= λ os. Ok (t ∷ os)) (ih others refl) ∙ one_behind t others rest ∙ ap (λ ts. behind ts rest) whole
  in_two kind (Ok d) (Err r) rest types e more ih = absurd (let no : ⊥ = cc in no)
  in_two kind (Err r) front rest types e more ih = absurd (let no : ⊥ = cc in no)

  -- databases of two lists of types, where those of the first were read
  databases_in-append : (front back : List (List ℕ)) (types : List TypeDb) → databases_in files family front ≡ Ok types
      → databases_in files family (front ++ back) ≡ behind types (databases_in files family back)
  databases_in-append [] back types e =
      behind_none (databases_in files family back) ∙ (let none : [] ≡ types = cc in ap (λ ts. behind ts (databases_in files family back)) none)
  databases_in-append (kind ∷ front) back types e =
      in_two kind (of_kind kind) (databases_in files family front) (databases_in files family back) types e (databases_in files family (front ++ back))
      (λ others is. databases_in-append front back others is)

  -- one database more
  pub one_more : (front : List (List ℕ)) (kind : List ℕ) (types : List TypeDb) (db : TileDb) → databases_in files family front ≡ Ok types → of_kind kind ≡ Ok db
      → databases_in files family (front ++ kind ∷ []) ≡ Ok (types ++ record { kind = kind; db = db } ∷ [])
  one_more front kind types db so_far here =
      databases_in-append front (kind ∷ []) types so_far
      ∙ ap (λ (d : Result TileDb Refusal). behind types (d >>= λ one. Ok (record { kind = kind; db = one } ∷ []))) here

  rest_refused : (front rest : List (List ℕ)) (kind : List ℕ) (types : List TypeDb) → databases_in files family front ≡ Ok types
      → databases_in files family (front ++ kind ∷ rest)
      ≡ (of_kind kind >>= λ db. behind types (databases_in files family rest >>= λ others. Ok (record { kind = kind; db = db } ∷ others)))
  rest_refused front rest kind types so_far = databases_in-append front (kind ∷ rest) types so_far ∙ moved (of_kind kind)
    where
      moved : (d : Result TileDb Refusal) → behind types (d >>= λ db. databases_in files family rest >>= λ others. Ok (record { kind = kind; db = db } ∷ others))
          ≡ (d >>= λ db. behind types (databases_in files family rest >>= λ others. Ok (record { kind = kind; db = db } ∷ others)))
      moved (Ok db) = refl
      moved (Err r) = refl

  -- a database that isn't read ends the reading
  pub next_refuses : (kinds front rest : List (List ℕ)) (kind : List ℕ) (types : List TypeDb) (e : FileError) → kinds ≡ front ++ kind ∷ rest → databases_in files family front ≡ Ok types
      → Refuses (of_kind kind) (IsName (database_name family kind)) e → Refuses (databases_in files family kinds) (IsDatabaseReached files family kinds) e
  next_refuses kinds front rest kind types e order so_far h =
      refuses_as (of_kind kind >>= λ db. behind types (databases_in files family rest >>= λ others. Ok (record { kind = kind; db = db } ∷ others))) (databases_in files family kinds)
      (IsDatabaseReached files family kinds) (IsDatabaseReached files family kinds) e
      (ap (databases_in files family) order ∙ rest_refused front rest kind types so_far) (λ n r. r)
      (first_refuses (of_kind kind) (λ db. behind types (databases_in files family rest >>= λ others. Ok (record { kind = kind; db = db } ∷ others)))
      (IsName (database_name family kind)) (IsDatabaseReached files family kinds) e
      (λ n is. record { kind = kind; next = record { before = front; rest = rest; order = order; databases = types; read = so_far }; its_name = is }) h)
