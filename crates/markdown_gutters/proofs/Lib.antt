mod GutterLemmas
