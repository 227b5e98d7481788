-- What the copies of a table give, by what a program has of them.
use Rattle.std.proofs.Common.{◌≡◌, ℕ, Bool, true, false, List, map, get_or, Option, None, Some, refl, sym, ap, subst, ◌∙◌}
use Rattle.std.specs.Prelude.{codes, slice_get, if◌then◌else◌}
use Rattle.std.proofs.lemmas.Option.{none-some, same_Some, slice_get_within}
use Rattle.words.specs.Members.{In}
use Rattle.fabric.specs.InOrder.{IsRising}
use Rattle.circuit.specs.Cells.{TableCell}
use Rattle.circuit.specs.Parts.{PartRef, Table, OfTable, Source, sources}
use Rattle.circuit.specs.Pins.{Pin}
use Rattle.circuit.specs.Triples.{PartTriple}
use Rattle.circuit.specs.Circuits.{Circuit, IsRead}
use Rattle.circuit.specs.Worlds.{address, table_output}
use Rattle.circuit.specs.Tables.{Assigned}
use Rattle.circuit_laws.proofs.Parts.{table_path}
use Rattle.circuit_laws.proofs.Refs.{part_same}
use Rattle.attempts.specs.PinOrder.{part_cmp}
use Rattle.design_checks.specs.MaskChecks.{OpenAreZero}
use Rattle.design_checks.specs.CopyChecks.{first_part, part_in, Gives, output, unread}
use Rattle.fabric_laws.proofs.Numbered.{get_in}
use Rattle.pin_feeds.specs.Told.{Tells}
use Rattle.table_masks.specs.Least.{Shows}
use Rattle.table_masks.specs.Masking.{is_set}
use Rattle.table_masks.proofs.LeastTable.{flagged_read, read_flagged}
use Rattle.part_copies.specs.Numbered.{AreNumberedOnce, IsPartNumber}
use Rattle.table_copies.specs.declared.copies.Pins.{Pins}
use Rattle.table_copies.specs.declared.copies.TableCopy.{TableCopy}
use Rattle.table_copies.specs.declared.copies.TableCopy.TheVariants.{Unread, Read}
use Rattle.table_copies.specs.Rows.{IsRow}
use Rattle.table_copies.specs.Copies.{ArePins, IsCopy, IsReadWord, IsWord}
use Rattle.table_copies.specs.Outputs.{bits_at, given_by}
use Rattle.table_copies.proofs.Gathered.{IsFirstIn}
use Rattle.table_copies.proofs.Feeding.{named_table, row_of}
use Rattle.table_copies.proofs.Giving.{chosen, chosen_given, chosen_open, output_is}
use Rattle.table_copies.proofs.Tying.{IsReal}

digit : Bool → List ℕ
digit b = if b then codes "1" else codes "0"

module _ (c : Circuit) (feeds numbers : List (Option ℕ)) (read : List Bool) (shows : Shows c c.cells feeds numbers read) (once : AreNumberedOnce c.cells) (cell : List ℕ) (number : ℕ) where
  abbrev all : List Source
  all = sources c.cells

  abbrev part : PartRef
  part = part_in cell (Table number)

  abbrev tells : Tells c feeds
  tells = shows.feeds_are.tells

  -- a copy with no word isn't read
  unread_copy : (o : Option ℕ) → IsPartNumber all part o → IsReadWord all read o None → (s : Source) → In all s → s.part ≡ part → IsRead c s → ⊥
  unread_copy None none told s i e r = none s i e
  unread_copy (Some k) numbered told s i e r =
      let j = read_flagged c.cells feeds numbers read c shows s r in
      let one : j.0 ≡ k = once j.0 k s numbered.0 j.1.0 numbered.1.0 (e ∙ sym numbered.1.1) in
      let t = named_table c feeds tells cell number s i e in
      told (subst (λ n. get_or read n false ≡ true) one j.1.1) s t.0 (subst (λ n. slice_get all n ≡ Some s) one j.1.0) t.1

  module _ (refs : List PartRef) (rising : IsRising part_cmp refs) (feeders : List PartTriple) (firsts : map first_part feeders ≡ refs) (real : (f : PartTriple) → In feeders f → IsReal c f)
      (bits : PartTriple → Bool) (digits : List Bool) (assigned : map bits feeders ≡ digits) where
    abbrev Reaches : List (Option ℕ) → Type 0
    Reaches row = (q : PartRef) → IsFirstIn c.side all row q → In refs q

    -- ---- a read copy

    module _ (k word : ℕ) (pins : Pins) (row : List (Option ℕ)) (numbered : IsPartNumber all part (Some k)) (is : IsRow c.cells feeds (Some k) row) (flag : get_or read k false ≡ true) (w : IsWord all k word)
        (are : ArePins c.side all refs row pins) (reaches : Reaches row) where
      abbrev s : Source
      s = w.source

      abbrev t : TableCell
      t = w.table

      row_is : row ≡ row_of c feeds tells k s t w.numbered w.is_table
      row_is = is (slice_get_within all k s w.numbered) tells.are.long

      own_pins : ArePins c.side all refs (row_of c feeds tells k s t w.numbered w.is_table) pins
      own_pins = subst (λ r. ArePins c.side all refs r pins) row_is are

      own_reaches : Reaches (row_of c feeds tells k s t w.numbered w.is_table)
      own_reaches = subst Reaches row_is reaches

      own_part : s.part ≡ part
      own_part = ap (λ (z : Source). z.part) (same_Some s numbered.0 (sym w.numbered ∙ numbered.1.0)) ∙ numbered.1.1

      listed : In all s
      listed = get_in all k s w.numbered

      is_read : IsRead c s
      is_read = flagged_read c.cells feeds numbers read c shows k s w.numbered flag

      word_at : (x : Pin → Bool) → Assigned c bits s t x → OpenAreZero c s t x → table_output s.part t x ≡ is_set word (address (bits_at digits pins))
      word_at x given zeroed =
          output_is c feeds tells refs rising feeders firsts real bits digits assigned k s t w.numbered w.is_table pins own_pins own_reaches x given zeroed ∙ ap (λ n. is_set n (address (bits_at digits pins))) w.is

      abbrev x : Pin → Bool
      x = chosen c feeds tells refs rising feeders firsts real bits digits assigned k s t w.numbered w.is_table pins own_pins own_reaches

      read_gives : Gives c bits part (given_by digits (Read word pins))
      read_gives =
          let given = chosen_given c feeds tells refs rising feeders firsts real bits digits assigned k s t w.numbered w.is_table pins own_pins own_reaches in
          let zeroed = chosen_open c feeds tells refs rising feeders firsts real bits digits assigned k s t w.numbered w.is_table pins own_pins own_reaches in
          subst (λ b. Gives c bits part (if b then codes "1" else codes "0")) (word_at x given zeroed) (output s t x own_part (record { listed = listed; read = is_read }) w.is_table given zeroed)

      of_table : (v : TableCell) → t ≡ v → (y : Pin → Bool) → Assigned c bits s v y → OpenAreZero c s v y → table_output s.part v y ≡ is_set word (address (bits_at digits pins))
      of_table v same = subst (λ (z : TableCell). (y : Pin → Bool) → Assigned c bits s z y → OpenAreZero c s z y → table_output s.part z y ≡ is_set word (address (bits_at digits pins))) same word_at

      of_source : (u : Source) → s ≡ u → (v : TableCell) (y : Pin → Bool) → u.kind ≡ OfTable v → Assigned c bits u v y → OpenAreZero c u v y → table_output u.part v y ≡ is_set word (address (bits_at digits pins))
      of_source u same = subst (λ (z : Source). (v : TableCell) (y : Pin → Bool) → z.kind ≡ OfTable v → Assigned c bits z v y → OpenAreZero c z v y → table_output z.part v y ≡ is_set word (address (bits_at digits pins))) same
          (λ v y kind given zeroed. of_table v (table_path s.kind t v w.is_table kind) y given zeroed)

      read_is : (p : PartRef) (text : List ℕ) → part ≡ p → Gives c bits p text → text ≡ given_by digits (Read word pins)
      read_is p _ e (output u v y f ru kind given zeroed) =
          ap (λ b. if b then codes "1" else codes "0") (of_source u (part_same c.cells tells.formed.names s u listed ru.listed (own_part ∙ (e ∙ sym f))) v y kind given zeroed)
      read_is p _ e (unread none) = absurd (none s listed (own_part ∙ e) is_read)

    -- ---- any copy

    pub copy_gives : (o : Option ℕ) (row : List (Option ℕ)) (copy : TableCopy) → IsPartNumber all part o → IsRow c.cells feeds o row → Reaches row → IsCopy c.side all refs read row o copy → Gives c bits part (given_by digits copy)
    copy_gives o row Unread numbered is reaches told = unread (λ s i e r. unread_copy o numbered told s i e r)
    copy_gives None row (Read word pins) numbered is reaches told = absurd (none-some word (sym told.0))
    copy_gives (Some k) row (Read word pins) numbered is reaches told = read_gives k word pins row numbered is told.0.0 told.0.1 told.1 reaches

    unread_is : (o : Option ℕ) → IsPartNumber all part o → IsReadWord all read o None → (p : PartRef) (text : List ℕ) → part ≡ p → Gives c bits p text → text ≡ codes "-"
    unread_is o numbered told p _ e (output u v y f ru kind given zeroed) = absurd (unread_copy o numbered told u ru.listed (f ∙ sym e) ru.read)
    unread_is o numbered told p _ e (unread none) = refl

    pub copy_is : (o : Option ℕ) (row : List (Option ℕ)) (copy : TableCopy) → IsPartNumber all part o → IsRow c.cells feeds o row → Reaches row → IsCopy c.side all refs read row o copy → (text : List ℕ) → Gives c bits part text
        → text ≡ given_by digits copy
    copy_is o row Unread numbered is reaches told text g = unread_is o numbered told part text refl g
    copy_is None row (Read word pins) numbered is reaches told text g = absurd (none-some word (sym told.0))
    copy_is (Some k) row (Read word pins) numbered is reaches told text g = read_is k word pins row numbered is told.0.0 told.0.1 told.1 reaches part text refl g
