mod KeysLemmas
