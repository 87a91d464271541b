-- The examples about refusals.
use Rattle.std.proofs.Common.{◌≡◌, false, [], ◌∷◌, None, Option, refl, sym, inl, inr, arith}
use lib.Utf8.{encode}
use borrow.Author.Tests.{clash}
use Rattle.page.specs.Acts.{message}
use Rattle.page.specs.Page.{Page}
use Rattle.screen.specs.Screen.{full, place_row, put_pen}
use Rattle.std.proofs.lemmas.Str.{IsUtf8-from_is_utf8, is_utf8-from_IsUtf8}
use Rattle.std.specs.Str.{chars, is_utf8}
use Rattle.std.specs.Prelude.{codes}
use Rattle.text.specs.Texts.{GoodText}
use Rattle.text.specs.declared.refusal.Refusal.{Refusal}
use Rattle.worked.specs.Pages.{short}
use Rattle.worked.specs.Rules.{RefusedIn, WorkedLimits, WorkedRefusals, WorkedRules}

-- the refusal of a message that is fine in a window of one row
fine-alone : (p : Page) (r : Option Refusal) → GoodText (codes "b") → RefusedIn 1 false (Unit {0}) (message (codes "b")) (short p) r → r ≡ None
unfolding put_pen place_row full chars
fine-alone p r g (inl x) = absurd (x.0 refl)
fine-alone p r g (inr (a, inl x)) = absurd (x.0 tt)
fine-alone p r g (inr (a, inr (b, inl x))) = absurd (x.0 g)
fine-alone p r g (inr (a, inr (b, inr (c, inl x)))) = absurd (x.0 (omega arith))
fine-alone p r g (inr (a, inr (b, inr (c, inr (d, inl x))))) = absurd (x.0 tt)
fine-alone p r g (inr (a, inr (b, inr (c, inr (d, inr (e, inl x)))))) = absurd (x.0 (omega arith))
fine-alone p r g (inr (a, inr (b, inr (c, inr (d, inr (e, inr (f, x))))))) = x

worked-refusals : (p : Page) → WorkedRefusals p
unfolding put_pen place_row full chars
worked-refusals p = record {
  torn-first = inl ((λ e. absurd (clash (sym e))), refl);
  torn-finish = inl ((λ e. absurd (clash (sym e))), refl);
  torn-create = inr (refl, inl ((λ e. e), refl));
  torn-clear = inr (refl, inl ((λ e. e), refl));
  size-second = inr (refl, inl ((λ e. e), refl));
  text-third = λ t bad long. inr (refl, inr (tt, inl (bad, refl)));
  long-fourth = λ l q g long bad. inr (refl, inr (tt, inr (g, inl ((λ h. omega arith), refl))));
  place-fifth = inr (refl, inr (tt, inr (tt, inr (tt, inl ((λ h. let le = h.0 in omega arith), refl)))));
  tall-sixth = inr (refl, inr (tt, inr (tt, inr (tt, inr (tt, inl ((λ h. omega arith), refl))))));
  tall-message = λ g. inr (refl, inr (tt, inr (g, inr (omega arith, inr (tt, inl ((λ h. omega arith), refl))))));
  create-fine = inr (refl, inr (tt, inr (tt, inr (tt, inr (tt, inr (omega arith, refl))))));
  fine-alone = λ r g h. fine-alone p r g h;
  fine = λ g. inr (refl, inr (tt, inr (g, inr (omega arith, inr (tt, inr (omega arith, refl))))));
}

worked-limits : (p : Page) → WorkedLimits p
unfolding is_utf8 chars encode
worked-limits p = record {
  longest-line = λ l q e. omega arith;
  longer-line = λ l q e h. omega arith;
  longest-insert = omega arith;
  longer-insert = λ h. omega arith;
  longest-message = λ t e. omega arith;
  longer-message = λ t e h. omega arith;
  longest-notice = λ t e. omega arith;
  longer-notice = λ t e h. omega arith;
  place-inside = λ h. absurd (clash (is_utf8-from_IsUtf8 (195 ∷ []) h.1));
  place-end = (omega arith, IsUtf8-from_is_utf8 (codes "abc") refl);
  place-past = λ h. let le = h.0 in omega arith;
}

pub worked-rules : (p : Page) → WorkedRules p
worked-rules p = record { refusals = worked-refusals p; limits = worked-limits p }
