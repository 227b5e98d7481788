-- In the bare design nothing conducts, so each wire is below itself alone.
use Rattle.std.proofs.Common.{◌≡◌, ℕ, zero, suc, inl, inr, true, [], Some, refl, sym, ap, subst, ◌∙◌, arith}
use Rattle.words.specs.Members.{In}
use Rattle.patterns.specs.Bits.{DeviceBit}
use Rattle.patterns.specs.Fits.{has_plain_bit}
use Rattle.records.specs.Config.{Config}
use Rattle.std.specs.Prelude.{slice_get}
use Rattle.repair.specs.Plain.{unknown_bits, IsPlain}
use Rattle.repair_laws.proofs.Numbers.{of_mux_bits}
use Rattle.records.specs.Side.{Domain, D0}
use Rattle.links.specs.Links.{Drives, here, onto, Below, Feeds}
use Rattle.fabric.specs.Graph.{GraphMux}
use Rattle.circuit.specs.Pins.{Pin, pins}
use Rattle.circuit.specs.Circuits.{IsConnection}
use Rattle.circuit.specs.Domains.{HasDomain}
use Rattle.upset.specs.Configured.{circuit_of}
use Rattle.upset.specs.Safe.{FlipsHave, only}
use Rattle.repair.specs.Layouts.{configured, turn_over}
use Rattle.repair.specs.Turns.{routing}
use Rattle.repair.specs.Usable.{IsUsable}
use Rattle.repair_examples.specs.OneArc.{bare, cells, graph, net, read, routed, text, the_arc}

undriven : (x w : ℕ) → Drives (routing (configured bare)) x w → ⊥
undriven x w d = d

pub below_itself : {w v : ℕ} → Below (routing (configured bare)) w v → w ≡ v
below_itself here = refl
below_itself (onto {b} {c} q s) = absurd (undriven b c s)

-- only the input pad's wire has a feed
fed_is : (c w : ℕ) → Feeds (routing (configured bare)) c w → 0 ≡ w
fed_is c w f = elim f.output [ inl e ↦ e ∙ below_itself f.reach | inr n ↦ absurd n ]

-- all parts are of the first copy
domain_is : (w : ℕ) (d : Domain) → HasDomain (circuit_of (configured bare)) w d → d ≡ D0
domain_is w d h = elim h.listed [ inl e ↦ sym h.domain ∙ ap (λ s. s.domain) (sym e) | inr n ↦ absurd n ]

flips_are : (b : DeviceBit) (d : Domain) → FlipsHave (configured bare) (only b) d → d ≡ D0
flips_are b d h = elim h [ inl w ↦ domain_is w.0 d w.1.1 | inr n ↦ absurd n.1.0 ]

-- the input pad's net has a connection to the output pad in the circuit that was read
pub connects : (p : Pin) → In (pins cells) p → IsConnection read (record { source = net.part; pin = p.ref })
connects p i = elim i [
  | inl e ↦ record {
    source = net;
    pin = p;
    connects = record {
      source = inl refl;
      pin = inl e;
      feeds = subst (λ q. Feeds (routing (configured routed)) 0 q.wire) e (record { output = inl refl; reach = onto here (inl refl) });
    };
    from = refl;
    to = refl;
  }
  | inr n ↦ absurd n
]

pub tree : Feeds (routing (configured bare)) 0 0
tree = record { output = inl refl; reach = here }

one_mux : (number : ℕ) (mux : GraphMux) → slice_get graph.muxes number ≡ Some mux → mux.sink ≡ 1 → number ≡ 0
one_mux zero mux e s = refl
one_mux (suc n) mux e s = absurd (let no : ⊥ = cc in no)

-- the one mux is plain where no unknown line stands
pub plain : (config : Config) → ((b : DeviceBit) → In (unknown_bits graph config) b → ⊥) → IsPlain graph config 0
plain config none = record {
  alone = λ b i other j. (let n = of_mux_bits graph other b j in elim n.listed [ inl e ↦ sym n.of_mux ∙ ap (λ a. a.mux) (sym e) | inr m ↦ absurd m ]);
  no_setting = λ b i n. n;
  no_unknown = λ b i n. none b n;
  has_plain_bits = λ a i e. elim i [ inl s ↦ subst (λ x. has_plain_bit x.arc.bits ≡ true) s refl | inr n ↦ absurd n ];
}

pub usable : IsUsable (turn_over read bare net) the_arc
usable = record {
  routable = record {
    listed = inl refl;
    free_sink = record {
      wire = _;
      named = refl;
      on_grid = refl;
      one_mux = one_mux;
      plain = plain (text []) (λ b h. h);
      none_fixed = λ l i. absurd i;
      clear = λ b i. refl;
    };
    one_driver = λ w b n. absurd (n (sym (below_itself b)));
    none_fed = record {
      unfed = λ w b f. (let e = fed_is f.0 w f.1 in let s = below_itself b in let no : ⊥ = omega arith in no);
      no_output = λ w b i. elim i [ inl e ↦ (let s = below_itself b in let no : ⊥ = omega arith in no) | inr n ↦ n ];
    };
    chosen = record { chosen = refl; alone = λ other i s h. elim i [ inl e ↦ sym e | inr n ↦ absurd n ] };
  };
  own_pins = λ w b p i e. connects p i;
  flips = λ b i other j s h d k. domain_is other.source d k;
  disturbed = λ b m w q dist d k. flips_are b d k;
}
