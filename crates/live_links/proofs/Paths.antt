-- Links of a path that are added one after the other.
use Rattle.std.proofs.Common.{◌≡◌, ℕ, suc, ◌+◌, ◌<◌, List, [], ◌∷◌, ◌++◌, length, get_or, take, drop, refl, sym, ap, subst, ◌∙◌, arith}
use Rattle.std.proofs.lemmas.List.{drop-drop, drop_more, take_more}
use Rattle.links.specs.Links.{Link}
use Rattle.live_links.specs.Live.{AreAddable, Stacked, with_link, with_path, without_last, without_links}

pub with_path_push : (s : Stacked) (path : List Link) (l : Link) → with_path s (path ++ l ∷ []) ≡ with_link (with_path s path) l
with_path_push s [] l = refl
with_path_push s (m ∷ ms) l = with_path_push (with_link s m) ms l

-- one more link of the path is added
pub path_more : (s now new : Stacked) (path : List Link) (i : ℕ) (l : Link) → i < length path → l ≡ get_or path i l → now ≡ with_path s (take i path) → new ≡ with_link now l → new ≡ with_path s (take (i + 1) path)
path_more s now new path i l below is now_is new_is =
    new_is ∙ (ap (λ (z : Stacked). with_link z l) now_is ∙ (sym (with_path_push s (take i path) l)
    ∙ ap (λ (p : List Link). with_path s p) (ap (λ (m : Link). take i path ++ m ∷ []) is ∙ sym (take_more path i l below))))

pub addable_now : (now : Stacked) (path : List Link) (i : ℕ) (l : Link) → i < length path → l ≡ get_or path i l → AreAddable now (drop i path) → AreAddable now (l ∷ drop (i + 1) path)
addable_now now path i l below is are =
    subst (λ (m : Link). AreAddable now (m ∷ drop (i + 1) path)) (sym is) (subst (λ (p : List Link). AreAddable now p) (drop_more path i l below) are)

pub addable_next : (now new : Stacked) (path : List Link) (i : ℕ) (l : Link) → i < length path → l ≡ get_or path i l → AreAddable now (drop i path) → new ≡ with_link now l → AreAddable new (drop (i + 1) path)
addable_next now new path i l below is are new_is =
    subst (λ (s : Stacked). AreAddable s (drop (i + 1) path)) (sym new_is) (addable_now now path i l below is are).1

-- one more link is taken back
pub back_more : (s now new : Stacked) (i : ℕ) → now ≡ without_links i s → new ≡ without_last now → new ≡ without_links (i + 1) s
back_more s now new i now_is new_is =
    new_is ∙ (ap (λ (z : Stacked). without_last z) now_is ∙ ap (λ (ls : List Link). record { base = s.base; links = ls; more = s.more }) (drop-drop 1 i s.links))

-- a path that was added is taken back
pub path_back : (s : Stacked) (path : List Link) → without_links (length path) (with_path s path) ≡ s
path_back s [] = refl
path_back s (l ∷ ls) =
    let n = length ls in
    let both = drop-drop 1 n (with_path (with_link s l) ls).links in
    let e : n + 1 ≡ suc n = omega arith in
    ap (λ (m : ℕ). without_links m (with_path (with_link s l) ls)) (sym e)
    ∙ (ap (λ (ks : List Link). record { base = (with_path (with_link s l) ls).base; links = ks; more = (with_path (with_link s l) ls).more }) (sym both)
    ∙ ap (λ (z : Stacked). without_last z) (path_back (with_link s l) ls))

pub path_long : (s : Stacked) (path : List Link) → length (with_path s path).links ≡ length path + length s.links
path_long s [] = omega arith
path_long s (l ∷ ls) = let h = path_long (with_link s l) ls in omega arith
