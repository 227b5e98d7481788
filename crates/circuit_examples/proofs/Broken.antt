-- Broken circuits, and the rule that refuses each.
use Rattle.std.proofs.Common.{◌≡◌, ℕ, Bool, true, false, not, [], ◌∷◌, inl, inr, refl, sym, subst, eqb}
use Rattle.std.specs.Prelude.{codes}
use Rattle.links.specs.Links.{Fed}
use Rattle.records.specs.Side.{D0, D1, D2}
use Rattle.circuit.specs.Parts.{Pad, Source, table_source, register_source}
use Rattle.circuit.specs.Pins.{Pin, pin_at}
use Rattle.circuit.specs.Domains.{HasDomain}
use Rattle.circuit.specs.Tables.{SameBitsBut}
use Rattle.circuit.specs.Triplicated.{ReadPart, TablesMask, OpenPinsIgnored, FedByClock, ClocksAreClocks, CopiesAlike}
use Rattle.circuit_laws.proofs.Sound.{Sound, to_pin, has_domain}
use Rattle.circuit_examples.specs.Toggle.{b, c, d, ck, f, toggle_table, toggle_register, toggle_slice, toggle_with, toggle_unclocked, inverted_majority}
use Rattle.circuit_examples.specs.Exchange.{shown, straight_table, table_slice, exchange_with}
use Rattle.circuit_examples.proofs.Tests.{no_false}
use Rattle.circuit_examples.proofs.Feeding.{feeds_is, tree_clean}
use Rattle.circuit_examples.proofs.Formed.{well_formed}
use Rattle.circuit_examples.proofs.Rules.{dry, fed_complete}
use Rattle.circuit_examples.proofs.ToggleMeets.{toggle_sound}
use Rattle.circuit_examples.proofs.ExchangeMeets.{exchange_sound}

-- the parts of a0, where its table has this word, and the register of a1
abbrev a0_table : ℕ → Source
a0_table word = table_source (toggle_slice (codes "a0") D0 1 word) 0 (toggle_table 1 word)

abbrev a0_register : ℕ → Source
a0_register word = register_source (toggle_slice (codes "a0") D0 1 word) 0 (toggle_register 1)

abbrev a1_register : Source
a1_register = register_source (toggle_slice (codes "a1") D1 2 inverted_majority) 0 (toggle_register 2)

-- the register of a0 reads its table
table_read : (word : ℕ) → ReadPart (toggle_with word) (a0_table word)
table_read word = record {
  listed = inl refl;
  read = (
    pin_at (a0_register word).part 0 (f 1),
    to_pin (toggle_with word) (a0_table word) (pin_at (a0_register word).part 0 (f 1)) (inr (inr (inr (inr (inl refl)))))
        (feeds_is (toggle_with word) (toggle_sound word).formed.outputs.listed (a0_table word) (f 1) (inl refl) refl),
  );
}

-- ones at all pins, and a zero at the pin that copy 1 feeds
ones : Pin → Bool
ones p = true

abbrev but_one : Pin → Bool
but_one p = not (eqb p.ref.pin 2)

pub fails_masking : TablesMask (toggle_with 0x1F1F) → ⊥
unfolding ones
fails_masking masks =
    let t = toggle_with 0x1F1F in
    let from_copy_1 : HasDomain t (c 1) D1 = has_domain t (toggle_sound 0x1F1F) a1_register (c 1) (feeds_is t (toggle_sound 0x1F1F).formed.outputs.listed a1_register (c 1) (inr (inr (inr (inl refl)))) refl) in
    let same : SameBitsBut t D1 (a0_table 0x1F1F) (toggle_table 1 0x1F1F) ones but_one = λ p i away. elim i [
      | inl e ↦ subst (λ z. true ≡ but_one z) e refl
      | inr i ↦ elim i [
        | inl e ↦ subst (λ z. true ≡ but_one z) e refl
        | inr i ↦ elim i [
          | inl e ↦ absurd (away (subst (λ z. HasDomain t z.wire D1) e from_copy_1))
          | inr i ↦ elim i [ inl e ↦ subst (λ z. true ≡ but_one z) e refl | inr i ↦ absurd i ]
        ]
      ]
    ] in
    no_false (masks (a0_table 0x1F1F) (toggle_table 1 0x1F1F) (table_read 0x1F1F) refl D1 (λ g. true) ones but_one (λ e. (let no : ⊥ = cc in no)) (λ p x i cn. refl) same)

pub reads_open_pin : OpenPinsIgnored (toggle_with 0x9717) → ⊥
reads_open_pin rule =
    let t = toggle_with 0x9717 in
    let unfed : Fed t.routing (d 1) → ⊥ = λ x. no_false (fed_complete t (toggle_sound 0x9717) (d 1) x) in
    let same = rule.parts (a0_table 0x9717) (pin_at (a0_table 0x9717).part 3 (d 1)) (table_read 0x9717) (inr (inr (inr (inl refl)))) unfed in
    no_false (sym (same (true ∷ true ∷ true ∷ false ∷ []) refl))

-- the toggle without the clock of a0
unclocked_sound : Sound toggle_unclocked
unclocked_sound = record {
  clean = tree_clean toggle_unclocked.routing refl;
  formed = well_formed toggle_unclocked (record {
    names = refl;
    outputs = refl;
    triples = record { slices = refl; inputs = refl; outputs = refl; clocks = refl; paired = refl; once = refl };
    sizes = record { tables = refl; registers = refl; some_pins = refl; few_pins = refl };
  });
}

-- the table of a0 reads the register of a0 at pin 1
register_read : ReadPart toggle_unclocked (a0_register inverted_majority)
register_read = record {
  listed = inr (inl refl);
  read = (
    pin_at (a0_table inverted_majority).part 1 (b 1),
    to_pin toggle_unclocked (a0_register inverted_majority) (pin_at (a0_table inverted_majority).part 1 (b 1)) (inr (inl refl))
        (feeds_is toggle_unclocked unclocked_sound.formed.outputs.listed (a0_register inverted_majority) (b 1) (inr (inl refl)) refl),
  );
}

pub has_no_clock : ClocksAreClocks toggle_unclocked → ⊥
has_no_clock rule =
    let g = rule.clocked (a0_register inverted_majority) (toggle_register 1) register_read refl in
    elim g.1.0 [
      | inl e ↦ dry toggle_unclocked unclocked_sound (pin_at (a0_register inverted_majority).part 3 (ck 1)) refl (subst (FedByClock toggle_unclocked) (sym e) g.1.1)
      | inr j ↦ absurd j
    ]

-- the tables of f0 and f2
abbrev f0_table : Source
f0_table = table_source (table_slice (codes "f0") D0 (straight_table 0 0x2222)) 0 (straight_table 0 0x2222)

abbrev f2_table : Source
f2_table = table_source (table_slice (codes "f2") D2 (straight_table 2 0x3333)) 0 (straight_table 2 0x3333)

-- an output pad reads each
f0_read : ReadPart (exchange_with 0x3333) f0_table
f0_read = record {
  listed = inl refl;
  read = (
    pin_at (record { cell = codes "o0"; part = Pad }) 0 (shown 0),
    to_pin (exchange_with 0x3333) f0_table (pin_at (record { cell = codes "o0"; part = Pad }) 0 (shown 0))
        (inr (inr (inr (inr (inr (inr (inr (inr (inr (inr (inr (inr (inl refl)))))))))))))
        (feeds_is (exchange_with 0x3333) (exchange_sound 0x3333).formed.outputs.listed f0_table (shown 0) (inl refl) refl),
  );
}

f2_read : ReadPart (exchange_with 0x3333) f2_table
f2_read = record {
  listed = inr (inr (inl refl));
  read = (
    pin_at (record { cell = codes "o2"; part = Pad }) 0 (shown 2),
    to_pin (exchange_with 0x3333) f2_table (pin_at (record { cell = codes "o2"; part = Pad }) 0 (shown 2))
        (inr (inr (inr (inr (inr (inr (inr (inr (inr (inr (inr (inr (inr (inr (inl refl)))))))))))))))
        (feeds_is (exchange_with 0x3333) (exchange_sound 0x3333).formed.outputs.listed f2_table (shown 2) (inr (inr (inl refl))) refl),
  );
}

-- where x and y are 0
zeros : Pin → Bool
zeros p = false

pub copies_unlike : CopiesAlike (exchange_with 0x3333) → ⊥
unfolding zeros
copies_unlike rule =
    no_false (rule.tables f0_table f2_table (straight_table 0 0x2222) (straight_table 2 0x3333) f0_read f2_read refl refl refl (λ g. false) zeros zeros (λ p a i cn. refl) (λ p a i cn. refl))
