use Rattle.std.proofs.Common.{refl}
use Rattle.std.proofs.lemmas.Bool.{false≢true}
use Rattle.copy_rules.proofs.Differing.{first_set, first_data, first_enable, first_reset, first_clock, no_field}
use Rattle.copy_rules.proofs.fields.first_field.Goals as goal

pub returns-then-some_differ : goal.returns-then-some_differ
returns-then-some_differ c = λ circuit shows t number are. first_set circuit t number c.args.copies.now are ((c.if-some_differ.ensures circuit shows).0 refl)

pub returns-then-some_differ-2 : goal.returns-then-some_differ-2
returns-then-some_differ-2 c = λ circuit shows t number are. first_data circuit t number c.args.copies.now are (λ d. false≢true ((c.if-some_differ.ensures circuit shows).1 d)) ((c.if-some_differ-2.ensures circuit shows).0 refl)

pub returns-then-some_differ-3 : goal.returns-then-some_differ-3
returns-then-some_differ-3 c = λ circuit shows t number are. first_enable circuit t number c.args.copies.now are (λ d. false≢true ((c.if-some_differ.ensures circuit shows).1 d)) (λ d. false≢true ((c.if-some_differ-2.ensures circuit shows).1 d)) ((c.if-some_differ-3.ensures circuit shows).0 refl)

pub returns-then-some_differ-4 : goal.returns-then-some_differ-4
returns-then-some_differ-4 c = λ circuit shows t number are. first_reset circuit t number c.args.copies.now are (λ d. false≢true ((c.if-some_differ.ensures circuit shows).1 d)) (λ d. false≢true ((c.if-some_differ-2.ensures circuit shows).1 d)) (λ d. false≢true ((c.if-some_differ-3.ensures circuit shows).1 d)) ((c.if-some_differ-4.ensures circuit shows).0 refl)

pub returns-then-some_differ-5 : goal.returns-then-some_differ-5
returns-then-some_differ-5 c = λ circuit shows t number are. first_clock circuit t number c.args.copies.now are (λ d. false≢true ((c.if-some_differ.ensures circuit shows).1 d)) (λ d. false≢true ((c.if-some_differ-2.ensures circuit shows).1 d)) (λ d. false≢true ((c.if-some_differ-3.ensures circuit shows).1 d)) (λ d. false≢true ((c.if-some_differ-4.ensures circuit shows).1 d)) ((c.if-some_differ-5.ensures circuit shows).0 refl)

pub returns : goal.returns
returns c = λ circuit shows t number are. no_field circuit t number c.args.copies.now are (λ d. false≢true ((c.if-some_differ.ensures circuit shows).1 d)) (λ d. false≢true ((c.if-some_differ-2.ensures circuit shows).1 d)) (λ d. false≢true ((c.if-some_differ-3.ensures circuit shows).1 d)) (λ d. false≢true ((c.if-some_differ-4.ensures circuit shows).1 d)) (λ d. false≢true ((c.if-some_differ-5.ensures circuit shows).1 d))
