-- Values of names, whole numbers and lists that are printed on a line are read back.
use Rattle.std.proofs.Common.{◌≡◌, ◌≤◌, ◌<◌, ◌^◌, ℕ, suc, Bool, true, false, inl, inr, List, [], ◌∷◌, ◌++◌, map, Option, Some, option_map, option_and_then, decimal, refl, sym, ap, subst, ◌∙◌, arith, append-nil, append_assoc}
use Rattle.std.specs.Prelude.{nat_le, nat_lt}
use Rattle.std.specs.List.{list_all}
use Rattle.std.specs.Str.{IsUtf8, is_utf8}
use Rattle.std.proofs.lemmas.Bool.{and_parts, and_from, leb-true, lt-ltb}
use Rattle.std.proofs.lemmas.Str.{IsUtf8-append, IsUtf8-from_ascii, is_utf8-from_IsUtf8}
use Rattle.std.proofs.lemmas.Fmt.{IsAscii-decimal}
use Rattle.json.specs.Json as json
use Rattle.json.specs.Token.{Token}
use Rattle.json.specs.Lex.{tokens}
use Rattle.json.specs.Tree as tree
use Rattle.json.proofs.Printed.Decimals.{IsNumber-decimal}
use Rattle.json.proofs.Printed.Trees.{value-json_tokens, ArePrintable-json_tokens}
use Rattle.json.proofs.Printed.Utf8.{IsUtf8-quoted, IsUtf8-key, are_ascii, IsUtf8-are_ascii}
use Rattle.serde_json.specs.Data.{Data, number, string, array, Items, item, Members, no_members, member, object, put}
use Rattle.serde_json.specs.Read.{of_json, of_items, of_members, max_depth, read}
use Rattle.serde_json.specs.View.{items_of}
use Rattle.serde_json.specs.Written.{outline, items_outline, members_outline, compact_text, items_text, members_text, comma_if}
use Rattle.serde_json.proofs.Numbers.{number_of-decimal}
use Rattle.serde_json.proofs.Texts.{print-outline}
use Rattle.json.specs.Print.{quoted}
use Rattle.words.specs.Members.{In}
use Rattle.links.proofs.Members.{of_map}
use Rattle.texts.specs.Names.{is_name_byte, is_name}
use Rattle.json_forms.specs.Values.{reading_of}
use Rattle.side_form.specs.SidePrint.{list_value, whole_value}
use Rattle.text_laws.proofs.LineFeed.{tokens_of_line}

-- the value of JSON whose last token was read
abbrev of_whole : Option (json.Json × List Token) → Option Data
of_whole o = option_and_then of_json (option_and_then (λ p. json.if_last p.0 p.1) o)

-- a value is printed so that it is read back: it nests so deep at most
pub record IsPlain (n : ℕ) (d : Data) : Type 0 where
  pub numbers : tree.HasNumbers (outline d)
  pub same : of_json (outline d) ≡ Some d
  pub shallow : tree.depth (outline d) ≤ n
  pub utf8 : IsUtf8 (compact_text d)

pub record ArePlain (n : ℕ) (later : Bool) (ds : Items) : Type 0 where
  pub numbers : tree.ItemsHaveNumbers (items_outline ds)
  pub same : of_items (items_outline ds) ≡ Some ds
  pub shallow : tree.items_depth (items_outline ds) ≤ n
  pub utf8 : IsUtf8 (items_text later ds)

-- a line with a value is read as the value
pub line_read : (d : Data) → IsPlain max_depth d → reading_of (compact_text d ++ 10 ∷ []) ≡ Some d
unfolding reading_of
line_read d h =
    let ts = tree.json_tokens (outline d) in
    let lexed : tokens (compact_text d ++ 10 ∷ []) ≡ ts = ap (λ t. tokens (t ++ 10 ∷ [])) (sym (print-outline d)) ∙ tokens_of_line ts (ArePrintable-json_tokens (outline d) h.numbers) in
    let back : read (compact_text d ++ 10 ∷ []) ≡ Some d =
    ap of_whole (ap (json.value max_depth) (lexed ∙ sym (append-nil ts)) ∙ value-json_tokens (outline d) max_depth [] h.shallow) ∙ h.same in
    let text : is_utf8 (compact_text d ++ 10 ∷ []) ≡ true = is_utf8-from_IsUtf8 (compact_text d ++ 10 ∷ []) (IsUtf8-append (compact_text d) (10 ∷ []) h.utf8 (IsUtf8-are_ascii (10 ∷ []) refl)) in
    rw text back

name_bytes_ascii : (bytes : List ℕ) → list_all is_name_byte bytes ≡ true → are_ascii bytes ≡ true
name_bytes_ascii [] h = refl
name_bytes_ascii (b ∷ bs) h =
    let parts = and_parts (is_name_byte b) (list_all is_name_byte bs) h in
    let high = leb-true b 0x7E (and_parts (nat_le 0x21 b) (nat_le b 0x7E) parts.0).1 in
    and_from (nat_lt b 128) (are_ascii bs) (lt-ltb b 128 (omega arith)) (name_bytes_ascii bs parts.1)

-- a name is text
name_utf8 : (s : List ℕ) → is_name s ≡ true → IsUtf8 s
name_utf8 s h = IsUtf8-are_ascii s (name_bytes_ascii s (and_parts _ (list_all is_name_byte s) h).1)

pub name_plain : (s : List ℕ) → is_name s ≡ true → IsPlain 0 (string s)
name_plain s h = record { numbers = tt; same = refl; shallow = omega arith; utf8 = IsUtf8-quoted s (name_utf8 s h) }

pub whole_plain : (n : ℕ) → n < 2 ^ 64 → IsPlain 0 (whole_value n)
whole_plain n h = record {
  numbers = IsNumber-decimal n h;
  same = ap (option_map number) (number_of-decimal n h);
  shallow = omega arith;
  utf8 = IsUtf8-from_ascii (decimal n) (IsAscii-decimal n h);
}

comma_utf8 : (later : Bool) → IsUtf8 (comma_if later)
comma_utf8 true = IsUtf8-are_ascii (44 ∷ []) refl
comma_utf8 false = IsUtf8-are_ascii [] refl

item_same : (d : Data) (ds : Items) → of_json (outline d) ≡ Some d → of_items (items_outline ds) ≡ Some ds → of_items (items_outline (item d ds)) ≡ Some (item d ds)
item_same d ds e f = ap (option_and_then (λ x. option_map (item x) (of_items (items_outline ds)))) e ∙ ap (option_map (item d)) f

items_plain : (n : ℕ) (later : Bool) (ds : List Data) → ((d : Data) → In ds d → IsPlain n d) → ArePlain n later (items_of ds)
items_plain n later [] h = record { numbers = tt; same = refl; shallow = omega arith; utf8 = IsUtf8-are_ascii (93 ∷ []) refl }
items_plain n later (d ∷ ds) h =
    let first = h d (inl refl) in
    let rest = items_plain n true ds (λ e i. h e (inr i)) in
    record {
      numbers = (first.numbers, rest.numbers);
      same = item_same d (items_of ds) first.same rest.same;
      shallow = omega (arith, first.shallow, rest.shallow);
      utf8 = IsUtf8-append (comma_if later) (compact_text d ++ items_text true (items_of ds)) (comma_utf8 later) (IsUtf8-append (compact_text d) (items_text true (items_of ds)) first.utf8 rest.utf8);
    }

-- a list of values that are read back
pub list_plain : (n : ℕ) (ds : List Data) → ((d : Data) → In ds d → IsPlain n d) → IsPlain (suc n) (list_value ds)
list_plain n ds h =
    let r = items_plain n false ds h in
    record {
      numbers = r.numbers;
      same = ap (option_map array) r.same;
      shallow = omega (arith, r.shallow);
      utf8 = IsUtf8-append (91 ∷ []) (items_text false (items_of ds)) (IsUtf8-are_ascii (91 ∷ []) refl) r.utf8;
    }

-- nesting may be less deep
pub plain_within : (m n : ℕ) (d : Data) → m ≤ n → IsPlain m d → IsPlain n d
plain_within m n d le h = record { numbers = h.numbers; same = h.same; shallow = omega (arith, h.shallow); utf8 = h.utf8 }

-- each of some values is read back
abbrev pub EachPlain : ℕ → List Data → Type 0
EachPlain n [] = Unit {0}
EachPlain n (d ∷ ds) = IsPlain n d × EachPlain n ds

in_each : (n : ℕ) (ds : List Data) → EachPlain n ds → (d : Data) → In ds d → IsPlain n d
in_each n [] h d i = absurd i
in_each n (e ∷ ds) h d i = elim i [ inl same ↦ subst (IsPlain n) same h.0 | inr j ↦ in_each n ds h.1 d j ]

-- a list of few values
pub few_plain : (n : ℕ) (ds : List Data) → EachPlain n ds → IsPlain (suc n) (list_value ds)
few_plain n ds h = list_plain n ds (in_each n ds h)

-- a list of the values of things
pub values_plain : {X : Type 0} (n : ℕ) (value : X → Data) (xs : List X) → ((x : X) → In xs x → IsPlain n (value x)) → IsPlain (suc n) (list_value (map value xs))
values_plain n value xs h = list_plain n (map value xs) (λ d i. (let r = of_map value xs d i in subst (IsPlain n) r.1.1 (h r.0 r.1.0)))

-- the names of members are text, and their values are read back
abbrev pub PlainMembers : ℕ → Members → Type 0
PlainMembers n no_members = Unit {0}
PlainMembers n (member k d ms) = IsUtf8 k × IsPlain n d × PlainMembers n ms

-- members that are put in one after another
abbrev pub put_all : Members → Members → Members
put_all no_members found = found
put_all (member k d ms) found = put_all ms (put k d found)

members_same : (n : ℕ) (ms found : Members) → PlainMembers n ms → of_members (members_outline ms) found ≡ Some (put_all ms found)
members_same n no_members found h = refl
members_same n (member k d ms) found h = ap (option_and_then (λ x. of_members (members_outline ms) (put k x found))) h.1.same ∙ members_same n ms (put k d found) h.2

members_numbers : (n : ℕ) (ms : Members) → PlainMembers n ms → tree.MembersHaveNumbers (members_outline ms)
members_numbers n no_members h = tt
members_numbers n (member k d ms) h = (h.1.numbers, members_numbers n ms h.2)

members_shallow : (n : ℕ) (ms : Members) → PlainMembers n ms → tree.members_depth (members_outline ms) ≤ n
members_shallow n no_members h = omega arith
members_shallow n (member k d ms) h = omega (arith, h.1.shallow, members_shallow n ms h.2)

regrouped : (q v : List ℕ) → q ++ 58 ∷ v ≡ (q ++ 58 ∷ []) ++ v
regrouped q v = sym (append_assoc q (58 ∷ []) v)

members_utf8 : (n : ℕ) (later : Bool) (ms : Members) → PlainMembers n ms → IsUtf8 (members_text later ms)
members_utf8 n later no_members h = IsUtf8-are_ascii (125 ∷ []) refl
members_utf8 n later (member k d ms) h =
    let value = compact_text d ++ members_text true ms in
    IsUtf8-append (comma_if later) (quoted k ++ 58 ∷ value) (comma_utf8 later)
    (subst IsUtf8 (sym (regrouped (quoted k) value))
    (IsUtf8-append (quoted k ++ 58 ∷ []) value (IsUtf8-key k h.0) (IsUtf8-append (compact_text d) (members_text true ms) h.1.utf8 (members_utf8 n true ms h.2))))

-- an object whose members stand in order
pub object_plain : (n : ℕ) (ms : Members) → PlainMembers n ms → put_all ms no_members ≡ ms → IsPlain (suc n) (object ms)
object_plain n ms h ordered = record {
  numbers = members_numbers n ms h;
  same = ap (option_map object) (members_same n ms no_members h ∙ ap (λ m. Some m) ordered);
  shallow = omega (arith, members_shallow n ms h);
  utf8 = IsUtf8-append (123 ∷ []) (members_text false ms) (IsUtf8-are_ascii (123 ∷ []) refl) (members_utf8 n false ms h);
}
