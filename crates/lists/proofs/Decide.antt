use borrow.Author.Tests.{eq-eqb, ne_eqb, lt-ltb, le-ltb, le-leb, lt-leb}

-- The laws that turn a fact into a test's value, as one set: `search decide` closes a return of a function that tests by early returns.
pub ruleset decide = (eq-eqb, ne_eqb, lt-ltb, le-ltb, le-leb, lt-leb)
