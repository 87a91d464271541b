-- The bytes of a styled text draw what it shows.
use Rattle.std.proofs.Common.{ℕ, ◌≢◌, [], ◌∷◌, ◌++◌, refl, ap, ◌∙◌, arith}
use lib.Utf8.{encode}
use Rattle.screen.proofs.Decode.{utf-proof}
use Rattle.screen.proofs.Sequences.{feed-append, style-proof}
use Rattle.screen.specs.Bytes.{feed}
use Rattle.screen.specs.Laws.{Feeds}
use Rattle.screen.specs.Screen.{put}
use Rattle.std.proofs.lemmas.Bool.Decides.{nat_tests}
use Rattle.text.specs.Characters.{Good}
use Rattle.text.specs.Texts.{dyes, ends, shows}

not-escape : (c : ℕ) → Good c → c ≢ 27
not-escape c g = grind (arith, nat_tests)

pub feeds-proof : Feeds
feeds-proof d bs cs s ends g = refl
feeds-proof d bs cs s (shows c {bs = x} {cs = y} h t) g =
    feed-append d (encode c) x s ∙ ap (feed d x) (utf-proof d c s h.0 (not-escape c h) g) ∙ feeds-proof d x y (put d c s) t refl
feeds-proof d bs cs s (dyes ps {bs = x} h t) g =
    feed-append d (27 ∷ 91 ∷ (ps ++ (109 ∷ []))) x s ∙ ap (feed d x) (style-proof d ps s h g) ∙ feeds-proof d x cs s t g
