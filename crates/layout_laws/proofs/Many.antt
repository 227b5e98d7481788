-- Paths of nets, one after the other.
use Rattle.std.proofs.Common.{◌≡◌, ℕ, ◌↔◌, inl, inr, List, [], ◌∷◌, refl, sym, ap, subst, ◌∙◌}
use Rattle.words.specs.Members.{In}
use Rattle.records.specs.Side.{Domain}
use Rattle.links.specs.Links.{Drives, here, Below, Feeds, IsClean}
use Rattle.links.proofs.Walks.{reaches_by}
use Rattle.fabric.specs.Device.{Device}
use Rattle.fabric.specs.Graph.{GraphArc}
use Rattle.fabric.specs.Agree.{ArcsAgree}
use Rattle.fabric.specs.Values.{word_at, value_at}
use Rattle.circuit.specs.Circuits.{Circuit}
use Rattle.circuit.specs.Domains.{HasDomain}
use Rattle.upset.specs.Configured.{circuit_of}
use Rattle.upset.specs.Safe.{IsSafe}
use Rattle.repair.specs.Added.{with_arcs, with_image, added_all}
use Rattle.repair.specs.Turns.{Turn, routing}
use Rattle.repair.specs.Layouts.{Layout, configured, with_path, turn_over, NetPath, with_paths, ArePaths}
use Rattle.layout_laws.specs.Named.{NamesOnce}
use Rattle.repair_laws.specs.Ready.{IsReady}
use Rattle.layout_laws.specs.PathsKept.{PathsKept}
use Rattle.repair_laws.proofs.Numbers.{numbered, in_mux_bits}
use Rattle.repair_laws.proofs.Fed.{fed_domain}
use Rattle.repair_laws.proofs.Path.{Sound, Grows, are_kept, path_grows, path_feeds}
use Rattle.layout_laws.proofs.TextPath.{Lined, lined}
use Rattle.layout_laws.proofs.Settings.{words_same, values_same, settings_stay}

-- what is known of a layout to which paths are added, for the induction: links and domains stay besides
pub record Grown (y : Layout) (paths : List NetPath) : Type 0 where
  pub kept : PathsKept y paths
  pub links : (x w : ℕ) → Drives (routing (configured y)) x w → Drives (routing (configured (with_paths y paths))) x w
  pub stays : (w : ℕ) (d : Domain) → HasDomain (circuit_of (configured y)) w d → HasDomain (circuit_of (configured (with_paths y paths))) w d
  pub outputs : (w : ℕ) → In y.graph.outputs w → In (with_paths y paths).graph.outputs w

grown_none : (device : Device) (y : Layout) → IsReady device (configured y) → IsSafe (configured y) → ArcsAgree y.graph (configured y).image y.config → Grown y []
grown_none device y ready safe agree = record {
  kept = record {
    clean = ready.clean;
    safe = safe;
    agree = agree;
    connected = λ p i. absurd i;
    below = λ p i. absurd i;
    others = λ w n d. ((λ h. h), (λ h. h));
    words = λ tile name. refl;
    enums = λ tile name. refl;
  };
  links = λ x w l. l;
  stays = λ w d h. h;
  outputs = λ w i. i;
}

-- one path
module _ (device : Device) (once : NamesOnce device) (read : Circuit) (y : Layout) (ready : IsReady device (configured y)) (safe : IsSafe (configured y))
    (agree : ArcsAgree y.graph (configured y).image y.config) (p : NetPath) (rest : List NetPath) (ok : ArePaths read y (p ∷ rest)) where
  t : Turn
  t = turn_over read y p.net

  sound : Sound t
  unfolding t
  sound = record { numbers = numbered device y.graph ready.graph; clean = ready.clean; outputs = ready.outputs; settings = ready.settings; net = ok.0 }

  grows : Grows t p.path
  unfolding t
  grows = path_grows t sound safe p.path p.pin ok.1 ok.2

  line : Lined t p.path
  unfolding t
  line = lined device once t ready.graph sound refl agree p.path p.pin ok.1 ok.2

  -- the text with the path's lines configures what its patterns do
  same : configured (with_path y p.path) ≡ added_all (configured y) p.path
  unfolding t
  same = ap (with_image (configured y)) line.image

  pub agree_after : ArcsAgree y.graph (configured (with_path y p.path)).image (with_path y p.path).config
  unfolding t
  agree_after = subst (λ i. ArcsAgree y.graph i (with_path y p.path).config) (sym line.image) ((are_kept t p.path grows).agree y.config (with_path y p.path).config line.lines agree)

  pub safe_after : IsSafe (configured (with_path y p.path))
  unfolding t
  safe_after = subst (λ k. IsSafe k) (sym same) grows.safe

  clean_after : IsClean (routing (configured (with_path y p.path)))
  unfolding t
  clean_after = subst (λ k. IsClean (routing k)) (sym same) grows.clean

  pub ready_after : IsReady device (configured (with_path y p.path))
  ready_after = record {
    graph = ready.graph;
    clean = clean_after;
    outputs = record { listed = ready.outputs.listed; alone = ready.outputs.alone };
    settings = record { slices = ready.settings.slices; pads = ready.settings.pads };
  }

  links_after : (x w : ℕ) → Drives (routing (configured y)) x w → Drives (routing (configured (with_path y p.path))) x w
  unfolding t
  links_after x w l = subst (λ k. Drives (routing k) x w) (sym same) (grows.links x w l)

  stays_after : (w : ℕ) (d : Domain) → HasDomain (circuit_of (configured y)) w d → HasDomain (circuit_of (configured (with_path y p.path))) w d
  unfolding t
  stays_after w d h = subst (λ k. HasDomain (circuit_of k) w d) (sym same) (grows.stays w d h)

  fed_after : Feeds (routing (configured (with_path y p.path))) p.net.out p.pin
  unfolding t
  fed_after = subst (λ k. Feeds (routing k) p.net.out p.pin) (sym same) (path_feeds t p.path p.pin ok.1 grows)

  sink_after : (a : GraphArc) → In p.path a → HasDomain (circuit_of (configured (with_path y p.path))) a.sink p.net.domain
  unfolding t
  sink_after a i = subst (λ k. HasDomain (circuit_of k) a.sink p.net.domain) (sym same) (grows.below a.sink (a, (i, here)))

  others_after : (w : ℕ) → ((a : GraphArc) → In p.path a → Below (routing (configured y)) a.sink w → ⊥) → (d : Domain)
      → HasDomain (circuit_of (configured (with_path y p.path))) w d ↔ HasDomain (circuit_of (configured y)) w d
  unfolding t
  others_after w n d =
      let o = grows.others w (λ k. n k.0 k.1.0 k.1.1) d in (
        (λ h. o.0 (subst (λ k. HasDomain (circuit_of k) w d) same h)),
        (λ h. subst (λ k. HasDomain (circuit_of k) w d) (sym same) (o.1 h)),
      )

  words_after : (tile : ℕ) (name : List ℕ) → word_at y.graph (configured (with_path y p.path)).image tile name ≡ word_at y.graph (configured y).image tile name
  unfolding t
  words_after tile name = ap (λ i. word_at y.graph i tile name) line.image
      ∙ words_same y.graph (with_arcs (configured y).image p.path) (configured y).image
      (settings_stay y.graph (configured y).image p.path (λ a i b n s. (line.plain a i).no_setting b (in_mux_bits y.graph a.mux a b (line.listed a i) refl n) s)) tile name

  values_after : (tile : ℕ) (name : List ℕ) → value_at y.graph (configured (with_path y p.path)).image tile name ≡ value_at y.graph (configured y).image tile name
  unfolding t
  values_after tile name = ap (λ i. value_at y.graph i tile name) line.image
      ∙ values_same y.graph (with_arcs (configured y).image p.path) (configured y).image
      (settings_stay y.graph (configured y).image p.path (λ a i b n s. (line.plain a i).no_setting b (in_mux_bits y.graph a.mux a b (line.listed a i) refl n) s)) tile name

  -- and all others
  pub grown_more : Grown (with_path y p.path) rest → Grown y (p ∷ rest)
  grown_more r = record {
    kept = record {
      clean = r.kept.clean;
      safe = r.kept.safe;
      agree = r.kept.agree;
      connected = λ q i. elim i [
        | inl e ↦ subst (λ z. Feeds (routing (configured (with_paths y (p ∷ rest)))) z.net.out z.pin) e (record { output = r.outputs p.net.out fed_after.output; reach = reaches_by r.links fed_after.reach })
        | inr j ↦ r.kept.connected q j
      ];
      below = λ q i a k w b. elim i [
        | inl e ↦ subst (λ z. HasDomain (circuit_of (configured (with_paths y (p ∷ rest)))) w z.net.domain) e
            (fed_domain (circuit_of (configured (with_paths y (p ∷ rest)))) a.sink p.net.domain r.kept.clean
            (r.stays a.sink p.net.domain (sink_after a (subst (λ z. In z.path a) (sym e) k))) w b)
        | inr j ↦ r.kept.below q j a k w b
      ];
      others = λ w n d. (
          let two = r.kept.others w (λ k. n (k.0, (inr k.1.0, k.1.1))) d in
          let one = others_after w (λ a i b. n (p, (inl refl, (a, (i, reaches_by (λ u v l. r.links u v (links_after u v l)) b))))) d in
          ((λ h. one.0 (two.0 h)), (λ h. two.1 (one.1 h))));
      words = λ tile name. r.kept.words tile name ∙ words_after tile name;
      enums = λ tile name. r.kept.enums tile name ∙ values_after tile name;
    };
    links = λ x w l. r.links x w (links_after x w l);
    stays = λ w d h. r.stays w d (stays_after w d h);
    outputs = r.outputs;
  }

pub paths_kept : (device : Device) → NamesOnce device → (read : Circuit) (y : Layout) → IsReady device (configured y) → IsSafe (configured y) → ArcsAgree y.graph (configured y).image y.config
    → (paths : List NetPath) → ArePaths read y paths → Grown y paths
paths_kept device once read y ready safe agree [] ok = grown_none device y ready safe agree
paths_kept device once read y ready safe agree (p ∷ rest) ok =
    grown_more device once read y ready safe agree p rest ok
    (paths_kept device once read (with_path y p.path) (ready_after device once read y ready safe agree p rest ok) (safe_after device once read y ready safe agree p rest ok)
    (agree_after device once read y ready safe agree p rest ok) rest ok.3)
